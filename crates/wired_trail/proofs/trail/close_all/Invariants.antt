use Rattle.std.proofs.Common.{◌≡◌, ℕ, ◌≤◌, length}
use Rattle.net_link.specs.Prefix.{IsPrefixOf}
use Rattle.net_link.specs.Seen.{seen}
use Rattle.wired_trail.specs.Lines.{IsThere}
use Rattle.wired_trail.proofs.trail.close_all.Given as goal

abbrev pub invariant-closing : goal.invariant-closing
invariant-closing g l = record {
  opens : (stream : ℕ) → IsThere l.lines stream → g.N.Net.is_open l.net stream;
  later : g.N.Net.faults l.fn.net ≤ g.N.Net.faults l.net;
  seen : g.N.Net.tells → (stream : ℕ) → seen stream (g.N.Net.history l.net) ≡ seen stream (g.N.Net.history l.fn.net);
  grows : g.N.Net.tells → IsPrefixOf (g.N.Net.history l.fn.net) (g.N.Net.history l.net);
}

abbrev pub decreases-closing : goal.decreases-closing
decreases-closing g l = length l.lines
