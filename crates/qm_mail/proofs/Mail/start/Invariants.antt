use Rattle.std.proofs.Common.{◌≡◌, map, take}
use Rattle.qm_mail.specs.Mails.{empty_lane}
use Rattle.qm_mail.specs.Queues.{lanes_shown}
use Rattle.qm_mail.proofs.Mail.start.Given as goal

abbrev pub invariant-loop-count : goal.invariant-loop-count
invariant-loop-count l = lanes_shown l.all ≡ map empty_lane (take l.count-index l.lanes)
