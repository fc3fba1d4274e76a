-- The laws of numbers, by topic; each can be imported from here
pub mod Ring
pub mod Powers
pub mod Divisible
pub mod Norms
pub mod Ranges
pub use Rattle.qm_zomega.proofs.Laws.Ring.{same, plus_comm, plus_assoc, plus-zero, zero-plus, minus-zero, zero-minus, minus_same, negative-zero, negative-negative, plus-negative, plus-negative_same, minus-negative, negative-plus, negative-minus, plus-plus-minus, minus-plus-minus, plus-plus_swap, plus-minus_swap, minus-plus_swap, minus-minus_swap}
pub use Rattle.qm_zomega.proofs.Laws.Powers.{turned-zero, turned-add, turned-sub, turned-negative, omega4, omega8, omega4-zero, omega4-zero-minus, turned-injective, omega_times-zero, omega_times-add, omega_times-sub, omega_times-negative, omega_times-more, omega_times_swap, omega_times-injective, zero_where_omega_times-zero, root2-zero, root2-add, root2-sub, negative-root2, turned-root2, root2-root2, doubled-injective, root2-injective, root2_times-zero, root2_times-add, root2_times-sub, root2_times-negative, root2_times-turned, root2_times-omega, root2_times-more, root2_times_swap, root2_times-injective, zero_where_root2_times-zero}
pub use Rattle.qm_zomega.proofs.Laws.Divisible.{divisible_where, Quarters, quarters, from_quarters, IsDivisible-zero, IsDivisible-plus, IsDivisible-minus, IsDivisible-turned, IsDivisible-omega, IsDivisible-negative, even_or_not, divisible_or_not}
pub use Rattle.qm_zomega.proofs.Laws.Norms.{norm-parallelogram, norm-zero, norm-negative, norm-turned, norm-omega, norm-root2, norm-root2_times, norm_is_even, zero_where_norm-zero, zero_or_not}
pub use Rattle.qm_zomega.proofs.Laws.Ranges.{FitsZw-zero, FitsZw-negative, FitsZw-turned, FitsZw-omega, FitsZw-below, SquaresWithin, squares_within_norm, below_where_norm_below, fits_where_norm_below}
