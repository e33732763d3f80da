-- The selection of a command began in time.
use Rattle.std.proofs.Common.{◌≡◌, ◌≤◌, ℕ, zero, suc, List, [], ◌∷◌, Option, None, Some, map, subst, arith}
use Rattle.std.specs.Option.{option_map_or}
use Rattle.entry_judge.specs.Judge.{Legal, state_after}
use Rattle.entry_judge.specs.declared.timed.Timed.{Timed}
use Rattle.cmd_build.specs.declared.command.Command.{Command}
use Rattle.desk_trail.specs.declared.entry.LookedHow.{LookedHow}
use Rattle.desk_trail.specs.declared.entry.LookedHow.TheVariants as looked
use Rattle.desk_trail.specs.declared.request.Purpose.{Purpose}
use Rattle.desk_trail.specs.declared.request.Purpose.TheVariants as purpose
use Rattle.desk_trail.specs.Attempts.{command_step}
use Rattle.desk_trail.specs.Clients.{Client}
use Rattle.desk_trail.specs.Facts.{Fact}
use Rattle.desk_trail.specs.Facts as fact
use Rattle.desk_trail.specs.Legal.{AreLegal, InTime, Point, StandsAt, beginning, changed_by, point_after, point_behind}
use Rattle.desk_trail.specs.Looks.{look_by}
use Rattle.desk_trail.specs.Owed.{Owed}
use Rattle.desk_trail.specs.States.{ClientState, CommandState, Selection, fresh_command}
use Rattle.trail_laws.specs.Waiting.{BeganBy}
use Rattle.trail_laws.proofs.CommandLemmas.{Each, asked_change, change_of, each-behind, each-event, run}

began-later : (ahead moment : ℕ) (o : Option Selection) → ahead ≤ moment → BeganBy ahead o → BeganBy moment o
began-later ahead moment None more h = tt
began-later ahead moment (Some s) more h = omega (arith, more, h)

began-looked : (w : ClientState) (moment : ℕ) (h : LookedHow) (c : CommandState) → BeganBy moment c.selection → BeganBy moment (look_by w moment h c).selection
began-looked w moment (looked.Chosen host) c b = tt
began-looked w moment looked.NoneFits c b = first c.selection b
  where
    first : (o : Option Selection) → BeganBy moment o → option_map_or (λ (s : Selection). s.first) o moment ≤ moment
    first None b = omega arith
    first (Some s) b = b
began-looked w moment looked.Failed c b = tt
began-looked w moment (looked.Incompatible host) c b = tt

ahead-of : (os : List Owed) (ahead moment : ℕ) → InTime os ahead moment → ahead ≤ moment
ahead-of [] ahead moment h = h
ahead-of (d ∷ ds) ahead moment h = omega (arith, h)

-- behind what an entry does to a command
began-run : (moment : ℕ) (w : ClientState) (f : Fact) (c : CommandState) → BeganBy moment c.selection → BeganBy moment (run (change_of moment w f) c).selection
began-run moment w (fact.Looked op a b ks picked) c h = began-looked w moment picked c h
began-run moment w (fact.Asked place r) c h = by r.purpose
  where
    by : (p : Purpose) → BeganBy moment (run (asked_change moment p) c).selection
    by (purpose.Command op) = h
    by (purpose.Check host) = h
    by (purpose.Greeting host conn) = h
    by purpose.Farewell = h
began-run moment w f c h = h

began-step : (client : Client) (p : Point) (t : Timed Fact) → StandsAt client p t → Each (λ c. BeganBy p.moment c.selection) p.state.commands →
    Each (λ c. BeganBy t.at c.selection) (point_after client p t).state.commands
began-step client p t s h =
    let more = ahead-of p.owed p.moment t.at s.time in
    let v = changed_by client t.at p.state t.what in
    each-event (λ c. BeganBy t.at c.selection) (command_step client p.state t.what) v (λ e is c there b. b)
    (each-behind (λ c. BeganBy t.at c.selection) client t.at p.state t.what (λ c there b. began-run t.at p.state t.what c b)
    (λ op c there. began-later p.moment t.at c.selection more (h op c there)))

began-from : (client : Client) (p : Point) (ts : List (Timed Fact)) → Legal (StandsAt client) (point_after client) p ts → Each (λ c. BeganBy p.moment c.selection) p.state.commands →
    Each (λ c. BeganBy (state_after (point_after client) p ts).moment c.selection) (state_after (point_after client) p ts).state.commands
began-from client p [] l h = h
began-from client p (t ∷ ts) l h = began-from client (point_after client p t) ts l.1 (began-step client p t l.0 h)

fresh-began : (moment : ℕ) (cs : List Command) → Each (λ c. BeganBy moment c.selection) (map fresh_command cs)
fresh-began moment [] op c there = absurd (cc)
fresh-began moment (x ∷ xs) zero c there =
    let same : fresh_command x ≡ c = (cc) in subst (λ (d : CommandState). BeganBy moment d.selection) same tt
fresh-began moment (x ∷ xs) (suc op) c there = fresh-began moment xs op c there

pub began-behind : (client : Client) (ts : List (Timed Fact)) → AreLegal client ts → Each (λ c. BeganBy (point_behind client ts).moment c.selection) (point_behind client ts).state.commands
began-behind client ts l = began-from client (beginning client) ts l (fresh-began client.began client.commands)
