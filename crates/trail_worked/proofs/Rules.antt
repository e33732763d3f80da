-- When entries may stand that read the topology, over lists; trails from their beginning on; and what is not legal.
use Rattle.std.proofs.Common.{◌≡◌, ℕ, List, [], map, find, take, length, Option, None, Some, sym, ap, ◌∙◌, subst, slice_get}
use Rattle.std.specs.Prelude.{◌↔◌, IsFalse}
use Rattle.std.specs.Option.{option_and_then, unwrap_or}
use Rattle.host_name.specs.Addresses.{Address}
use Rattle.hello_reply.specs.declared.server_description.ServerDescription.{ServerDescription}
use Rattle.hello_reply.specs.Descriptions.{unknown}
use Rattle.entry_judge.specs.declared.timed.Timed.{Timed}
use Rattle.entry_judge.specs.LegalLaws.{Legal-at}
use Rattle.cmd_build.specs.declared.command.Command.{Command}
use Rattle.topo_rules.specs.declared.event.TopoEvent.{TopoEvent}
use Rattle.topo_rules.specs.Changes.{SameButMeans, meanless, plain}
use Rattle.topo_rules.specs.Maps.{kept_mean}
use Rattle.topo_rules.specs.Readings.{is_misfit}
use Rattle.topo_rules.specs.Rules.{start_kind}
use Rattle.topo_book.specs.declared.verdict.Verdict.{Verdict}
use Rattle.topo_book.specs.declared.verdict.Verdict.TheVariants as verdict
use Rattle.server_pick.specs.Candidates.{candidate_of, candidates, suitable}
use Rattle.server_pick.specs.Picks.{picks, told}
use Rattle.server_pick.specs.Windows.{window, choice}
use Rattle.server_pick.specs.declared.candidate.Candidate.{Candidate}
use Rattle.server_pick.specs.declared.criteria.Criteria.{Criteria}
use Rattle.server_pick.specs.declared.picked.Picked.{Picked}
use Rattle.desk_trail.specs.declared.entry.LookedHow.{LookedHow}
use Rattle.desk_trail.specs.declared.entry.OfferedHow.{OfferedHow}
use Rattle.desk_trail.specs.declared.entry.OfferedHow.TheVariants as offered
use Rattle.desk_trail.specs.Clients.{Client, threshold}
use Rattle.desk_trail.specs.Facts.{Fact}
use Rattle.desk_trail.specs.Legal.{AreLegal, Point, StandsAt, beginning, point_after, point_behind}
use Rattle.desk_trail.specs.Looks.{AreNumbersOf, Concludes, IsAskedBy, IsKeptOf, IsLook, load_of}
use Rattle.desk_trail.specs.States.{ClientState, CommandState}
use Rattle.desk_trail.specs.Topologies.{IsOffered, Says}
use Rattle.trail_worked.proofs.MapRows.{Rows, map_of, in_order, descriptions_in, entries-map_of, values-map_of, get-map_of}
use Rattle.trail_worked.proofs.TopologyRows.{Listed, shown, rows_for, mean_in, listed_after, after-shown}
use Rattle.trail_worked.proofs.Spots.{Spot, on, up, verdict_in, verdict-in, AreGood, spot_behind, good, behind}

-- ---- an event that is offered

abbrev pub plain_rows : Rows → Rows
plain_rows es = map (λ e. (e.0, meanless e.1)) (in_order es)

plain-rows : (es : Rows) → plain (map_of es) ≡ plain_rows es
plain-rows es = ap (map (λ e. (e.0, meanless e.1))) (entries-map_of es)

pub record SameRows (l k : Listed) : Type 0 where
  pub kind : l.kind ≡ k.kind
  pub set_name : l.set_name ≡ k.set_name
  pub max_election : l.max_election ≡ k.max_election
  pub max_set_version : l.max_set_version ≡ k.max_set_version
  pub servers : plain_rows l.rows ≡ plain_rows k.rows

same-rows : (l k : Listed) → SameRows l k → SameButMeans (shown l) (shown k)
same-rows l k s = record {
  kind = s.kind;
  set_name = s.set_name;
  max_election = s.max_election;
  max_set_version = s.max_set_version;
  servers = plain-rows l.rows ∙ s.servers ∙ sym (plain-rows k.rows);
}

rows-same : (l k : Listed) → SameButMeans (shown l) (shown k) → SameRows l k
rows-same l k s = record {
  kind = s.kind;
  set_name = s.set_name;
  max_election = s.max_election;
  max_set_version = s.max_set_version;
  servers = sym (plain-rows l.rows) ∙ s.servers ∙ plain-rows k.rows;
}

abbrev pub SaysIn : Listed → TopoEvent → Verdict → OfferedHow → Type 0
SaysIn l event verdict.Accepted (offered.Accepted differs) = IsFalse differs ↔ SameRows l (listed_after l event)
SaysIn l event verdict.Gone offered.Gone = Unit {0}
SaysIn l event (verdict.StaleVersion kept came) offered.StaleVersion = Unit {0}
SaysIn l event (verdict.StaleGeneration kept came) offered.StaleGeneration = Unit {0}
SaysIn l event v h = ⊥

says-in : (w : ClientState) (l : Listed) (event : TopoEvent) (v : Verdict) (how : OfferedHow) → SaysIn l event v how → Says (on w l) event v how
says-in w l event verdict.Accepted (offered.Accepted differs) s =
    subst (λ t. IsFalse differs ↔ SameButMeans (shown l) t) (sym (after-shown l event))
    (λ d. same-rows l (listed_after l event) (s.0 d), λ d. s.1 (rows-same l (listed_after l event) d))
says-in w l event verdict.Gone offered.Gone s = tt
says-in w l event (verdict.StaleVersion kept came) offered.StaleVersion s = tt
says-in w l event (verdict.StaleGeneration kept came) offered.StaleGeneration s = tt
says-in w l event verdict.Accepted offered.Gone s = absurd s
says-in w l event verdict.Accepted offered.StaleVersion s = absurd s
says-in w l event verdict.Accepted offered.StaleGeneration s = absurd s
says-in w l event verdict.Gone (offered.Accepted differs) s = absurd s
says-in w l event verdict.Gone offered.StaleVersion s = absurd s
says-in w l event verdict.Gone offered.StaleGeneration s = absurd s
says-in w l event (verdict.StaleVersion kept came) (offered.Accepted differs) s = absurd s
says-in w l event (verdict.StaleVersion kept came) offered.Gone s = absurd s
says-in w l event (verdict.StaleVersion kept came) offered.StaleGeneration s = absurd s
says-in w l event (verdict.StaleGeneration kept came) (offered.Accepted differs) s = absurd s
says-in w l event (verdict.StaleGeneration kept came) offered.Gone s = absurd s
says-in w l event (verdict.StaleGeneration kept came) offered.StaleVersion s = absurd s

in-says : (w : ClientState) (l : Listed) (event : TopoEvent) (v : Verdict) (how : OfferedHow) → Says (on w l) event v how → SaysIn l event v how
in-says w l event verdict.Accepted (offered.Accepted differs) s =
    let t = subst (λ t. IsFalse differs ↔ SameButMeans (shown l) t) (after-shown l event) s in
    (λ d. rows-same l (listed_after l event) (t.0 d), λ d. t.1 (same-rows l (listed_after l event) d))
in-says w l event verdict.Gone offered.Gone s = tt
in-says w l event (verdict.StaleVersion kept came) offered.StaleVersion s = tt
in-says w l event (verdict.StaleGeneration kept came) offered.StaleGeneration s = tt
in-says w l event verdict.Accepted offered.Gone s = absurd s
in-says w l event verdict.Accepted offered.StaleVersion s = absurd s
in-says w l event verdict.Accepted offered.StaleGeneration s = absurd s
in-says w l event verdict.Gone (offered.Accepted differs) s = absurd s
in-says w l event verdict.Gone offered.StaleVersion s = absurd s
in-says w l event verdict.Gone offered.StaleGeneration s = absurd s
in-says w l event (verdict.StaleVersion kept came) (offered.Accepted differs) s = absurd s
in-says w l event (verdict.StaleVersion kept came) offered.Gone s = absurd s
in-says w l event (verdict.StaleVersion kept came) offered.StaleGeneration s = absurd s
in-says w l event (verdict.StaleGeneration kept came) (offered.Accepted differs) s = absurd s
in-says w l event (verdict.StaleGeneration kept came) offered.Gone s = absurd s
in-says w l event (verdict.StaleGeneration kept came) offered.StaleVersion s = absurd s

pub is_offered : (w : ClientState) (l : Listed) (place : ℕ) (event : TopoEvent) (how : OfferedHow) → place ≡ w.events →
    SaysIn l event (verdict_in w l event) how → IsOffered (on w l) place event how
is_offered w l place event how e s = record {
  next = e;
  says = subst (λ v. Says (on w l) event v how) (sym (verdict-in w l event)) (says-in w l event (verdict_in w l event) how s);
}

-- the same at a spot
pub offers : (s : Spot) (place : ℕ) (event : TopoEvent) (how : OfferedHow) → place ≡ s.point.state.events →
    SaysIn s.listed event (verdict_in s.point.state s.listed event) how → IsOffered (up s).state place event how
offers s place event how e h = is_offered s.point.state s.listed place event how e h

pub offer_says : (w : ClientState) (l : Listed) (place : ℕ) (event : TopoEvent) (how : OfferedHow) →
    IsOffered (on w l) place event how → SaysIn l event (verdict_in w l event) how
offer_says w l place event how o =
    in-says w l event (verdict_in w l event) how (subst (λ v. Says (on w l) event v how) (verdict-in w l event) o.says)

-- ---- a look

abbrev pub candidates_in : Listed → Criteria → (Address → ℕ) → List Candidate
candidates_in l criteria load = map (candidate_of load) (suitable l.kind criteria (descriptions_in l.rows))

abbrev pub picks_in : Listed → ℕ → List Address → (Address → ℕ) → ℕ → ℕ → Picked
picks_in l threshold kept load a b =
    told (find is_misfit (descriptions_in l.rows)) (choice load a b (window (λ host. unwrap_or (mean_in l.rows host) 0) threshold kept))

pub record LookIn (client : Client) (w : ClientState) (l : Listed) (moment op a b : ℕ) (kept : List ℕ) (how : LookedHow) : Type 0 where
  pub command : Command
  pub given : slice_get client.commands op ≡ Some command
  pub running : CommandState
  pub there : slice_get w.commands op ≡ Some running
  pub criteria : Criteria
  pub asks : IsAskedBy client (on w l) command.act running criteria
  pub addresses : List Address
  pub numbers : AreNumbersOf (on w l) kept addresses
  pub sublist : IsKeptOf addresses (map (λ c. c.host) (candidates_in l criteria (load_of (on w l))))
  pub concludes : Concludes client (on w l) running moment (picks_in l (threshold client) addresses (load_of (on w l)) a b) how

candidates-in : (l : Listed) (criteria : Criteria) (load : Address → ℕ) → candidates (shown l) criteria load ≡ candidates_in l criteria load
candidates-in l criteria load = ap (λ ds. map (candidate_of load) (suitable l.kind criteria ds)) (values-map_of l.rows)

mean-in : (es : Rows) (host : Address) → kept_mean (map_of es) host ≡ mean_in es host
mean-in es host = ap (λ (o : Option ServerDescription). option_and_then (λ d. d.mean) o) (get-map_of es host)

picks-in : (l : Listed) (threshold : ℕ) (kept : List Address) (load : Address → ℕ) (a b : ℕ) →
    picks (shown l).servers threshold kept load a b ≡ picks_in l threshold kept load a b
picks-in l threshold kept load a b =
    ap (λ ds. told (find is_misfit ds) (choice load a b (window (λ host. unwrap_or (kept_mean (map_of l.rows) host) 0) threshold kept))) (values-map_of l.rows)
    ∙ ap (λ (f : Address → Option ℕ). told (find is_misfit (descriptions_in l.rows)) (choice load a b (window (λ host. unwrap_or (f host) 0) threshold kept)))
    (λ i host. mean-in l.rows host i)

module _ (client : Client) (w : ClientState) (l : Listed) (moment op a b : ℕ) (kept : List ℕ) (how : LookedHow) where
  pub looks : LookIn client w l moment op a b kept how → IsLook client (on w l) moment op a b kept how
  looks k = record {
    command = k.command;
    given = k.given;
    running = k.running;
    there = k.there;
    criteria = k.criteria;
    asks = k.asks;
    addresses = k.addresses;
    numbers = k.numbers;
    sublist = subst (λ cs. IsKeptOf k.addresses (map (λ c. c.host) cs)) (sym (candidates-in l k.criteria (load_of (on w l)))) k.sublist;
    concludes = subst (λ p. Concludes client (on w l) k.running moment p how) (sym (picks-in l (threshold client) k.addresses (load_of (on w l)) a b)) k.concludes;
  }

  pub look_says : IsLook client (on w l) moment op a b kept how → LookIn client w l moment op a b kept how
  look_says k = record {
    command = k.command;
    given = k.given;
    running = k.running;
    there = k.there;
    criteria = k.criteria;
    asks = k.asks;
    addresses = k.addresses;
    numbers = k.numbers;
    sublist = subst (λ cs. IsKeptOf k.addresses (map (λ c. c.host) cs)) (candidates-in l k.criteria (load_of (on w l))) k.sublist;
    concludes = subst (λ p. Concludes client (on w l) k.running moment p how) (picks-in l (threshold client) k.addresses (load_of (on w l)) a b) k.concludes;
  }

-- ---- from the beginning on

abbrev pub start : Client → Spot
start client = record {
  point = beginning client;
  listed = record {
    kind = start_kind client.settings.set_name client.settings.direct;
    set_name = client.settings.set_name;
    max_election = None;
    max_set_version = None;
    seeds = length client.settings.hosts;
    direct = client.settings.direct;
    rows = rows_for client.settings.hosts unknown;
  };
}

pub legal : (client : Client) (ts : List (Timed Fact)) → AreGood client (start client) ts → AreLegal client ts
legal client ts g = good client (start client) ts g

pub paid : (client : Client) (ts : List (Timed Fact)) → (spot_behind client (start client) ts).point.owed ≡ [] → (point_behind client ts).owed ≡ []
paid client ts e = ap (λ (p : Point). p.owed) (behind client (start client) ts) ∙ e

-- an entry that cannot stand where those ahead of it lead
pub refused : (client : Client) (ts : List (Timed Fact)) (k : ℕ) (t : Timed Fact) → slice_get ts k ≡ Some t →
    (StandsAt client (up (spot_behind client (start client) (take k ts))) t → ⊥) → AreLegal client ts → ⊥
refused client ts k t e never l =
    never (subst (λ p. StandsAt client p t) (behind client (start client) (take k ts)) (Legal-at (StandsAt client) (point_after client) (beginning client) ts l k t e))
