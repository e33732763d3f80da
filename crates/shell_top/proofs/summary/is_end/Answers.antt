use Rattle.std.proofs.Common.{◌≡◌, ℕ, false, refl, sym, ap}
use Rattle.desk_trail.specs.declared.entry.Entry.{Entry}
use Rattle.desk_trail.specs.declared.entry.Entry.TheVariants as entry
use Rattle.write_retry.specs.declared.attempt_end.AttemptEnd.{AttemptEnd}
use Rattle.shell_top.specs.Summary.{is_end}
use Rattle.shell_top.proofs.summary.is_end.Goals as goal

not-end : (e : Entry) → ((op : ℕ) (end : AttemptEnd) → e ≡ entry.Ended op end → ⊥) → false ≡ is_end e
unfolding is_end
not-end (entry.Ended op end) not = absurd (not op end refl)
not-end e not = refl

pub returns-in-Ended : goal.returns-in-Ended
unfolding is_end
returns-in-Ended c = sym (ap is_end c.in-Ended.is)

pub returns-in_default : goal.returns-in_default
returns-in_default c = not-end c.args.entry.now c.in_default.not-Ended
