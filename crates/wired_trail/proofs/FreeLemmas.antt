-- A stream on which nothing is pending.
use Rattle.std.proofs.Common.{◌≡◌, ℕ, List, None, Some, subst}
use Rattle.net_link.specs.Seen.{seen}
use Rattle.net_link.specs.declared.event.NetEvent.{NetEvent}
use Rattle.legal_trail.specs.Recorded.{Recorded}
use Rattle.wired_trail.specs.Hearing.{told_of}
use Rattle.wired_trail.specs.Inside.{FitsAt, IsTold, Pendings, pending_at}
use Rattle.wired_trail.specs.Lines.{Lines, line_at}
use Rattle.wired_trail.specs.declared.lines.Line.{Line}
use Rattle.wired_trail.specs.declared.pending.Pending.TheVariants as is

pub free-of : (h : List NetEvent) (next : ℕ) (lines : Lines) (ps : Pendings) (r : Recorded) (stream : ℕ) (l : Line) → IsTold h next lines ps r → line_at lines stream ≡ Some l →
    pending_at ps stream ≡ Some is.Nothing → (told_of r stream).last ≡ None
free-of h next lines ps r stream l k there nothing =
    (subst (λ o. FitsAt (Some l) o (seen stream h) (told_of r stream)) nothing (subst (λ o. FitsAt o (pending_at ps stream) (seen stream h) (told_of r stream)) there (k.streams stream))).1
