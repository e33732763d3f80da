-- What a soak does: the commands that a seed gives, over the members of a replica set that are played in memory.
use Rattle.std.specs.Prelude.{◌≡◌, ◌/◌, ℕ, List, [], ◌∷◌, Option, None, Some, codes}
use Rattle.entry_judge.specs.declared.timed.Timed.{Timed}
use Rattle.net_link.specs.Causes.{count_of}
use Rattle.conn_uri.specs.Configurations.{Configuration, plain_configuration}
use Rattle.host_name.specs.Addresses.{Address}
use Rattle.member_hall.specs.Halls.{HallState}
use Rattle.member_hall.specs.Plans.{new_hall}
use Rattle.soak_plan.specs.Commands.{commands_of}
use Rattle.soak_plan.specs.Plans.{plan_of}
use Rattle.drv_events.specs.declared.event.Event.{Event}
use Rattle.drv_events.specs.declared.hooks.HooksOf.{HooksOf}
use Rattle.desk_share.specs.Shared.{Opened, listeners_in}
use Rattle.desk_trail.specs.declared.trail.Trail.{Trail}
use Rattle.desk_trail.specs.Clients.{Client}
use Rattle.desk_trail.specs.Facts.{Fact, facts_of}
use Rattle.desk_trail.specs.Legal.{AreLegal, IsLegal}
use Rattle.desk_trail.specs.Written.{lists_of}
use Rattle.desk_core.specs.declared.finished.Finished.{Finished}
use Rattle.trail_tally.specs.Tallies.{tallies_of}
use Rattle.trail_tally.specs.declared.tally.Tally.{Tally}
use Rattle.effect_count.specs.Counts.{ByStream, IsIndexOf}
use Rattle.wired_trail.specs.Wired.{IsWired}
use Rattle.write_effects.specs.Effects.{TakesEffectOnce}
use Rattle.shell_top.specs.Run.{Did, IsOfNet, Shows, Writes, all_ok, no_trail}
use Rattle.shell_top.specs.Summary.{summary_of, summary_text}
use Rattle.shell_top.specs.declared.status.Status.{Status}
use Rattle.shell_top.specs.declared.status.Status.TheVariants as status

-- The members' hosts, and the name of their set (own).
abbrev pub host_at_27017 : List ℕ → Address
host_at_27017 name = record { name = name; port = 27017 }

abbrev pub soak_hosts : List Address
soak_hosts = host_at_27017 (codes "a") ∷ host_at_27017 (codes "b") ∷ host_at_27017 (codes "c") ∷ []

abbrev pub soak_set : List ℕ
soak_set = codes "rs0"

-- What its client goes by: the members' hosts and their set, the database test, each option at its default.
abbrev pub soak_settings : Configuration
soak_settings = plain_configuration soak_hosts (Some soak_set) (codes "test")

-- The members, to which nothing happened yet: one act of the seed's for each ten commands is to come.
abbrev pub soak_hall : (seed count : ℕ) → HallState
soak_hall seed count = new_hall soak_set soak_hosts (plan_of seed (count / 10))

-- A client of those settings ran the commands over those members, and did what a client does in a run (`did`; its clock may show any
-- moment). With no premise, each command took effect at most once, at every moment and by the log of every member, and a write that was
-- answered ok exactly once (`once`). The status is the verdict of all commands (`verdict`), and what was written sums up what happened
-- (`written`).
pub record SoaksAll {A L : Type 0} (seed count : ℕ) (heard_by : L → List Event) (hooks_given hooks : HooksOf L) (out_tells : Type 0) (written_to : A → List ℕ) (old new : A) (s : Status) (trail : Trail) (hall : HallState) : Type 0 where
  pub client : Client
  pub settings : client.settings ≡ soak_settings
  pub commands : client.commands ≡ commands_of count
  pub did : Did (λ _. Unit {0}) (λ _. Unit {0}) (λ (h : HallState). count_of h.faults) heard_by (λ by told. IsOfNet hall.events by told)
      (record { client = client; faults = count_of (soak_hall seed count).faults; listeners = listeners_in hooks_given }) hall hooks s trail
  pub once : (op : ℕ) → TakesEffectOnce client (facts_of (lists_of trail) trail.steps) hall.events op
  pub verdict : Shows s (all_ok client trail)
  pub written : out_tells → Writes s (summary_text (summary_of client trail hall)) (written_to old) (written_to new)

-- Memory was wanting before there were members, and nothing was done.
pub record SoaksNot {A L : Type 0} (hooks_given hooks : HooksOf L) (out_tells : Type 0) (written_to : A → List ℕ) (old new : A) (s : Status) (trail : Trail) : Type 0 where
  pub memory : s ≡ status.Memory
  pub trail_is : trail ≡ no_trail
  pub hooks_are : hooks ≡ hooks_given
  pub written : out_tells → written_to new ≡ written_to old

-- By the members that it leaves.
abbrev pub Soaks : {A L : Type 0} → (seed count : ℕ) → (L → List Event) → (hooks_given hooks : HooksOf L) → Type 0 → (A → List ℕ) → (old new : A) → Status → Trail → Option HallState → Type 0
Soaks seed count heard_by hooks_given hooks out_tells written_to old new s trail None = SoaksNot hooks_given hooks out_tells written_to old new s trail
Soaks seed count heard_by hooks_given hooks out_tells written_to old new s trail (Some hall) = SoaksAll seed count heard_by hooks_given hooks out_tells written_to old new s trail hall

-- ---- What only private functions cite

-- What is left of a client that ran over members, whose tallies are those of its trail.
pub record IsPlayed {P : Type 0} (client : Client) (f : Finished HallState P) (ts : List Tally) : Type 0 where
  pub commands : f.commands ≡ client.commands
  pub tallies : ts ≡ tallies_of client.commands f.trail.steps
  pub legal : IsLegal client (lists_of f.trail) f.trail.steps
  pub wired : IsWired client f.net.events (facts_of (lists_of f.trail) f.trail.steps)
  pub once : (op : ℕ) → TakesEffectOnce client (facts_of (lists_of f.trail) f.trail.steps) f.net.events op

-- An index of the requests of a client whose entries are legal.
pub record IsIndexed (client : Client) (facts : List (Timed Fact)) (index : ByStream) : Type 0 where
  pub legal : AreLegal client facts
  pub index_of : IsIndexOf index facts

-- A client ran over those members, and was summed up so.
pub record SoaksTo {A L : Type 0} (hall : HallState) (shows rolls : ℕ → Type 0) (heard_by : L → List Event) (opened : Opened) (hooks : HooksOf L)
    (out_tells : Type 0) (written_to : A → List ℕ) (old new : A) (s : Status) (trail : Trail) : Type 0 where
  pub did : Did shows rolls (λ (h : HallState). count_of h.faults) heard_by (λ by told. IsOfNet hall.events by told) opened hall hooks s trail
  pub once : (op : ℕ) → TakesEffectOnce opened.client (facts_of (lists_of trail) trail.steps) hall.events op
  pub verdict : Shows s (all_ok opened.client trail)
  pub written : out_tells → Writes s (summary_text (summary_of opened.client trail hall)) (written_to old) (written_to new)

abbrev pub SoaksDesk : {A L : Type 0} → (shows rolls : ℕ → Type 0) → (L → List Event) → Opened → HooksOf L → Type 0 → (A → List ℕ) → (old new : A) → Status → Trail → Option HallState → Type 0
SoaksDesk shows rolls heard_by opened hooks out_tells written_to old new s trail None = ⊥
SoaksDesk shows rolls heard_by opened hooks out_tells written_to old new s trail (Some hall) = SoaksTo hall shows rolls heard_by opened hooks out_tells written_to old new s trail
