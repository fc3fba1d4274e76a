use Rattle.std.proofs.Common.{refl, arith}
use Rattle.qm_tree.proofs.worked.worked_lists.Goals as goal

pub returns : goal.returns
returns c = record {
  second_place = refl;
  last_place = refl;
  back_again = refl;
  children_of_root = refl;
  children_of_second = refl;
  no_children = refl;
  one_child = refl;
  no_parent = refl;
  parent_of_last = refl;
  cast_at_root = refl;
  cast_between = refl;
  cast_at_end = refl;
  uncast_at_root = refl;
  uncast_between = refl;
  uncast_at_end = refl;
  alone = refl;
  root_depth = refl;
  last_depth = ((λ e. omega (arith, e)), ((λ e. omega (arith, e)), refl));
  next_depth = ((λ e. omega (arith, e)), ((λ e. omega (arith, e)), ((λ e. omega (arith, e)), refl)));
}
