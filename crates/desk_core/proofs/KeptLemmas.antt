-- What a desk keeps stays so behind each of its entries.
use Rattle.std.proofs.Common.{◌≡◌, ◌≤◌, ◌<◌, ℕ, ◌+◌, ◌^◌, Bool, List, [], ◌∷◌, ◌++◌, map, length, Option, refl, sym, ap, ◌∙◌, subst, arith}
use Rattle.std.proofs.lemmas.List.{length-append, length-map, map-append}
use Rattle.bson_doc.specs.declared.cluster_time.ClusterTime.{ClusterTime}
use Rattle.host_name.specs.Addresses.{Address}
use Rattle.topo_rules.specs.declared.topology.Topology.{Topology}
use Rattle.desk_trail.specs.declared.entry.Entry.{Entry}
use Rattle.desk_trail.specs.declared.room.Room.{Room}
use Rattle.desk_trail.specs.declared.step.Step.{Step}
use Rattle.desk_trail.specs.Facts.{Lists}
use Rattle.desk_trail.specs.Facts as fact
use Rattle.desk_trail.specs.Legal.{InTime, MayGoOn, Point, StandsAt}
use Rattle.desk_trail.specs.Owed.{InTurn, Owed}
use Rattle.desk_trail.specs.Owed as owed
use Rattle.desk_trail.specs.States.{ClientState, ServerState, fresh_server}
use Rattle.desk_trail.specs.Written.{IsAtLeast, a_name, with_entry}
use Rattle.legal_trail.specs.Recorded.{Adds, Recorded}
use Rattle.wired_trail.specs.Lines.{Lines}
use Rattle.wired_trail.specs.Standing.{Standing}
use Rattle.desk_core.specs.Moves.{Moves}
use Rattle.desk_core.specs.Kept.{IsKept, LeadsTo, client_of, with_these}
use Rattle.desk_core.specs.Servers.{AreKeptServers, closings}
use Rattle.desk_core.proofs.ServerLemmas.{AreKeptServers-append, AreKeptServers-more, closings-append}

-- ---- Room alone

LeadsTo-with_room : (trail : Recorded) (room : Room) (lines : Lines) (topology : Topology) (ss : List ServerState) (time : Option ClusterTime) (last : ℕ) →
    trail.room.steps ≤ room.steps → LeadsTo trail lines topology ss time last → LeadsTo (record trail { room = room }) lines topology ss time last
LeadsTo-with_room trail room lines topology ss time last more h = record {
  state = h.state;
  greatest = h.greatest;
  moment = h.moment;
  names = h.names;
  numbers = h.numbers;
  room = let r = h.room in omega arith;
  kept = h.kept;
}

pub IsKept-room : {N : Type 0} (old new : Standing N) (topology : Topology) (ss : List ServerState) (time : Option ClusterTime) (count last : ℕ) (stopped : Bool) →
    new ≡ record old { trail = record old.trail { room = new.trail.room } } → IsAtLeast old.trail.room new.trail.room →
    IsKept old.trail old.lines topology ss time count last stopped → IsKept new.trail new.lines topology ss time count last stopped
IsKept-room {N} old new topology ss time count last stopped same more k = record {
  leads = λ runs.
      subst (λ (s : Standing N). LeadsTo s.trail s.lines topology ss time last) (sym same)
      (LeadsTo-with_room old.trail new.trail.room old.lines topology ss time last more.steps (k.leads runs));
  counted = k.counted;
  in_range = k.in_range;
}

-- ---- Entries that change the servers alone

-- a client that is as it was, these aside
pub restated : (new : Recorded) (v : ClientState) (events requests : ℕ) (topology : Topology) (ss : List ServerState) → new.point.state ≡ v →
    v ≡ with_these v events requests topology ss → events ≡ length new.lists.events → requests ≡ length new.lists.requests → new.point.state ≡ client_of new topology ss
restated new v events requests topology ss state is offered asked =
    state ∙ is ∙ ap (λ (w : ClientState). with_these w events requests topology ss) (sym state)
    ∙ (λ i. with_these new.point.state (offered i) (asked i) topology ss)

pub LeadsTo-moves : (old new : Recorded) (before lines : Lines) (topology : Topology) (ss now : List ServerState) (time : Option ClusterTime) (last : ℕ) →
    Moves old new now → new.point.moment ≤ last → new.lists.names ≡ map (λ (s : ServerState). s.address) now → length now ≤ 2 ^ 32 →
    closings now ≤ new.room.steps → AreKeptServers lines (length new.steps) now → LeadsTo old before topology ss time last → LeadsTo new lines topology now time last
LeadsTo-moves old new before lines topology ss now time last m moment names numbers room kept h = record {
  state =
      restated new (record (client_of old topology ss) { servers = now }) (length old.lists.events) (length old.lists.requests) topology now
      (m.state ∙ ap (λ (w : ClientState). record w { servers = now }) h.state) refl (ap length (sym m.events)) (ap length (sym m.requests));
  greatest = m.time ∙ h.greatest;
  moment = moment;
  names = names;
  numbers = numbers;
  room = room;
  kept = kept;
}

pub Moves-trans : (old between new : Recorded) (ss zs : List ServerState) → Moves old between ss → Moves between new zs → Moves old new zs
Moves-trans old between new ss zs a b = record {
  client = b.client ∙ a.client;
  events = b.events ∙ a.events;
  requests = b.requests ∙ a.requests;
  state = b.state ∙ ap (λ (w : ClientState). record w { servers = zs }) a.state;
  time = b.time ∙ a.time;
}

pub servers-of : (trail : Recorded) (lines : Lines) (topology : Topology) (ss : List ServerState) (time : Option ClusterTime) (last : ℕ) →
    LeadsTo trail lines topology ss time last → trail.point.state.servers ≡ ss
servers-of trail lines topology ss time last h = ap (λ (w : ClientState). w.servers) h.state

pub length-with_entry : (steps : List Step) (moment : ℕ) (e : Entry) → length (with_entry steps moment e) ≡ length steps + 1
length-with_entry steps moment e = rw (length-append steps) refl

-- ---- A host is named

pub Moves-named : (old new : Recorded) (names : List Address) (moment x : ℕ) (a : Address) (e : Entry) →
    Adds a_name (record old.lists { names = names }) moment e (fact.Named x a) old new → Moves old new (old.point.state.servers ++ fresh_server old.client moment a ∷ [])
Moves-named old new names moment x a e h = record {
  client = h.same_client;
  events = ap (λ (l : Lists). l.events) h.lists_now;
  requests = ap (λ (l : Lists). l.requests) h.lists_now;
  state = ap (λ (p : Point). p.state) h.point_now;
  time = ap (λ (p : Point). p.time) h.point_now;
}

pub LeadsTo-named : (old new : Recorded) (lines : Lines) (topology : Topology) (ss : List ServerState) (time : Option ClusterTime) (last moment x : ℕ) (a : Address) (e : Entry) →
    Adds a_name (record old.lists { names = old.lists.names ++ a ∷ [] }) moment e (fact.Named x a) old new → length old.lists.names < 2 ^ 32 → last ≡ moment →
    closings ss + 1 ≤ new.room.steps → 0 < (fresh_server old.client moment a).checks.beat → LeadsTo old lines topology ss time last →
    LeadsTo new lines topology (ss ++ fresh_server old.client moment a ∷ []) time last
LeadsTo-named old new lines topology ss time last moment x a e adds few now room paced h =
    let s : ServerState = fresh_server old.client moment a in
    let address : ServerState → Address = λ t. t.address in
    let is = servers-of old lines topology ss time last h in
    let m : Moves old new (ss ++ s ∷ []) = subst (λ zs. Moves old new (zs ++ s ∷ [])) is (Moves-named old new (old.lists.names ++ a ∷ []) moment x a e adds) in
    let count : length old.lists.names ≡ length ss = ap length h.names ∙ length-map ss address in
    let steps : length new.steps ≡ length old.steps + 1 = ap length adds.steps_now ∙ length-with_entry old.steps moment e in
    let at : new.point.moment ≡ moment = ap (λ (p : Point). p.moment) adds.point_now in
    LeadsTo-moves old new lines lines topology ss (ss ++ s ∷ []) time last m (omega arith)
    (ap (λ (l : Lists). l.names) adds.lists_now ∙ ap (λ l. l ++ a ∷ []) h.names ∙ sym (map-append address ss (s ∷ [])))
    (rw (length-append ss) (omega arith)) (rw (closings-append ss s) room)
    (AreKeptServers-append lines (length new.steps) ss s (AreKeptServers-more lines (length old.steps) (length new.steps) ss (omega arith) h.kept)
    (record { paid = refl; is_open = λ k. refl; generation = omega arith; entered = omega arith; checked = refl; paced = paced }))
    h

pub IsKept-named : (old new : Recorded) (before lines : Lines) (topology : Topology) (ss items : List ServerState) (time : Option ClusterTime) (count last moment x : ℕ)
    (stopped : Bool) (s : ServerState) (a : Address) (e : Entry) →
    Adds a_name (record old.lists { names = old.lists.names ++ a ∷ [] }) moment e (fact.Named x a) old new → length old.lists.names < 2 ^ 32 → last ≡ moment →
    count + 1 ≤ new.room.steps → lines ≡ before → s ≡ fresh_server old.client moment a → 0 < s.checks.beat → items ≡ ss ++ s ∷ [] →
    IsKept old before topology ss time count last stopped → IsKept new lines topology items time (count + 1) last stopped
IsKept-named old new before lines topology ss items time count last moment x stopped s a e adds few now room same fresh paced pushed k =
    let counted = k.counted in
    subst (λ (l : Lines). IsKept new l topology items time (count + 1) last stopped) (sym same)
    (subst (λ (zs : List ServerState). IsKept new before topology zs time (count + 1) last stopped) (sym (pushed ∙ ap (λ t. ss ++ t ∷ []) fresh))
    (record {
      leads = λ runs.
          LeadsTo-named old new before topology ss time last moment x a e adds few now (omega arith) (subst (λ (t : ServerState). 0 < t.checks.beat) fresh paced) (k.leads runs);
      counted = ap (λ n. n + 1) counted ∙ sym (closings-append ss (fresh_server old.client moment a));
      in_range = k.in_range;
    }))

-- ---- When it may stand

pub StandsAt-named : (trail : Recorded) (lines : Lines) (topology : Topology) (ss : List ServerState) (time : Option ClusterTime) (last moment : ℕ) (a b : Address)
    (rest : List Owed) → trail.point.owed ≡ owed.Named a ∷ rest → trail.point.moment ≡ moment → b ≡ a → LeadsTo trail lines topology ss time last →
    StandsAt trail.client trail.point (record { at = moment; what = fact.Named (length trail.lists.names) b })
StandsAt-named trail lines topology ss time last moment a b rest owes at name h = record {
  time = subst (λ o. InTime o trail.point.moment moment) (sym owes) (sym at);
  turn = subst (λ o. InTurn o (fact.Named (length trail.lists.names) b)) (sym owes) name;
  going = subst (λ g. MayGoOn g (fact.Named (length trail.lists.names) b)) (sym (ap (λ (w : ClientState). w.is_ending) h.state)) tt;
  rule = ap length h.names ∙ length-map ss (λ (s : ServerState). s.address) ∙ sym (ap (λ (w : ClientState). length w.servers) h.state);
  command = tt;
}

-- ---- A later moment

LeadsTo-later : (trail : Recorded) (lines : Lines) (topology : Topology) (ss : List ServerState) (time : Option ClusterTime) (last now : ℕ) → last ≤ now →
    LeadsTo trail lines topology ss time last → LeadsTo trail lines topology ss time now
LeadsTo-later trail lines topology ss time last now later h = record {
  state = h.state;
  greatest = h.greatest;
  moment = let m = h.moment in omega arith;
  names = h.names;
  numbers = h.numbers;
  room = h.room;
  kept = h.kept;
}

pub IsKept-later : (trail : Recorded) (lines : Lines) (topology : Topology) (ss : List ServerState) (time : Option ClusterTime) (count last now : ℕ) (stopped : Bool) →
    last ≤ now → now ≤ 2 ^ 62 → IsKept trail lines topology ss time count last stopped → IsKept trail lines topology ss time count now stopped
IsKept-later trail lines topology ss time count last now stopped later within k = record {
  leads = λ runs. LeadsTo-later trail lines topology ss time last now later (k.leads runs);
  counted = k.counted;
  in_range = within;
}
