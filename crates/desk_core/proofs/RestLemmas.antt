-- Checks that stay as they were, and what is left of a check that ended.
use Rattle.std.proofs.Common.{◌≡◌, ◌≤◌, ◌<◌, ◌⊎◌, inl, inr, ℕ, zero, suc, ◌+◌, Bool, true, false, List, [], ◌∷◌, ◌++◌, Option, None, Some, refl, sym, ap, ◌∙◌, subst, arith, if◌then◌else◌}
use Rattle.std.specs.Prelude.{slice_get, slice_set}
use Rattle.std.specs.FinMap as map
use Rattle.std.specs.Option.{option_map_or}
use Rattle.bson_doc.specs.declared.cluster_time.ClusterTime.{ClusterTime}
use Rattle.host_name.specs.Addresses.{Address}
use Rattle.hello_reply.specs.declared.server_description.ServerDescription.{ServerDescription}
use Rattle.topo_rules.specs.declared.event.TopoEvent.{TopoEvent}
use Rattle.topo_rules.specs.declared.event.TopoEvent.TheVariants as event
use Rattle.topo_rules.specs.declared.topology.Topology.{Topology}
use Rattle.topo_rules.specs.Kinds.{is_known}
use Rattle.topo_rules.specs.Laws.{StandsBehind}
use Rattle.topo_rules.specs.Rules as rules
use Rattle.topo_book.specs.Fresh.{by_kept, is_accepted_verdict}
use Rattle.topo_book.specs.Means.{stands_known}
use Rattle.watch_step.specs.Checks.{Checks, next_check}
use Rattle.watch_step.specs.Ends.{is_again}
use Rattle.desk_wire.specs.declared.answers.Pulled.{Pulled}
use Rattle.desk_trail.specs.declared.entry.CheckHow.{CheckHow}
use Rattle.desk_trail.specs.declared.entry.CheckHow.TheVariants as how
use Rattle.desk_trail.specs.declared.entry.Entry.{Entry}
use Rattle.desk_trail.specs.Checks.{AtServer, IsDue, Runs, check_ends, end_of, is_known_at, is_known_by}
use Rattle.desk_trail.specs.Facts.{Fact}
use Rattle.desk_trail.specs.Facts as fact
use Rattle.desk_trail.specs.States.{ClientState, ServerState}
use Rattle.desk_trail.specs.Topologies.{asks_of, generation_for, offered_after, topology_after}
use Rattle.desk_trail.specs.Written.{an_entry}
use Rattle.legal_trail.specs.Recorded.{Adds, Recorded}
use Rattle.wired_trail.specs.Lines.{Lines}
use Rattle.desk_core.specs.Ends.{IsEndBy}
use Rattle.desk_core.specs.Kept.{LeadsTo}
use Rattle.desk_core.specs.Leaving.{Drops, dropped}
use Rattle.desk_core.specs.Rests.{HasBegun, HasEnded, HasSameChecks, KeepsChecks}
use Rattle.desk_core.specs.Sights.{IsAtRest}
use Rattle.desk_core.proofs.CheckLemmas as check
use Rattle.desk_core.proofs.OfferLemmas.{offered-plain}
use Rattle.desk_core.proofs.PoolLemmas.{Changes, servers-changed}
use Rattle.desk_core.proofs.ServerLemmas.{slice_get-append_left, slice_get-set_same}

-- ---- Checks that stay as they were

HasSameChecks-refl : (s : ServerState) → HasSameChecks s s
HasSameChecks-refl s = record { address = refl; stood = λ n. n; checks = λ n. refl }

HasSameChecks-trans : (s t u : ServerState) → HasSameChecks s t → HasSameChecks t u → HasSameChecks s u
HasSameChecks-trans s t u a b = record {
  address = b.address ∙ a.address;
  stood = λ n. a.stood (b.stood n);
  checks = λ n. b.checks n ∙ a.checks (b.stood n);
}

pub KeepsChecks-same : (w v : ClientState) → v.topology ≡ w.topology → v.servers ≡ w.servers → KeepsChecks w v
KeepsChecks-same w v topology same = record {
  topology = topology;
  servers = λ x s there. (s, ap (λ ss. slice_get ss x) same ∙ there, HasSameChecks-refl s);
}

pub KeepsChecks-refl : (w : ClientState) → KeepsChecks w w
KeepsChecks-refl w = KeepsChecks-same w w refl refl

pub KeepsChecks-trans : (w v u : ClientState) → KeepsChecks w v → KeepsChecks v u → KeepsChecks w u
KeepsChecks-trans w v u a b = record {
  topology = b.topology ∙ a.topology;
  servers = λ x s there.
      let m = a.servers x s there in
      let n = b.servers x m.0 m.1 in
      (n.0, n.1, HasSameChecks-trans s m.0 n.0 m.2 n.2);
}

-- behind one more server
pub KeepsChecks-append : (w v : ClientState) (t : ServerState) → v.topology ≡ w.topology → v.servers ≡ w.servers ++ t ∷ [] → KeepsChecks w v
KeepsChecks-append w v t topology longer = record {
  topology = topology;
  servers = λ x s there. (s, ap (λ ss. slice_get ss x) longer ∙ slice_get-append_left w.servers (t ∷ []) x s there, HasSameChecks-refl s);
}

set-kept : (ss : List ServerState) (k : ℕ) (s t : ServerState) (x : ℕ) (u : ServerState) → slice_get ss k ≡ Some s → HasSameChecks s t → slice_get ss x ≡ Some u →
    (v : ServerState) × (slice_get (slice_set ss k t) x ≡ Some v) × HasSameChecks u v
set-kept [] k s t x u at kept there = absurd (cc)
set-kept (z ∷ zs) zero s t zero u at kept there = let same : s ≡ u = (cc) in (t, refl, subst (λ q. HasSameChecks q t) same kept)
set-kept (z ∷ zs) zero s t (suc x) u at kept there = (u, there, HasSameChecks-refl u)
set-kept (z ∷ zs) (suc k) s t zero u at kept there = (u, there, HasSameChecks-refl u)
set-kept (z ∷ zs) (suc k) s t (suc x) u at kept there = set-kept zs k s t x u at kept there

-- behind a change of one server
pub KeepsChecks-set : (w v : ClientState) (k : ℕ) (s t : ServerState) → v.topology ≡ w.topology → slice_get w.servers k ≡ Some s → v.servers ≡ slice_set w.servers k t →
    HasSameChecks s t → KeepsChecks w v
KeepsChecks-set w v k s t topology at set kept = record {
  topology = topology;
  servers = λ x u there.
      let m = set-kept w.servers k s t x u at kept there in
      (m.0, ap (λ ss. slice_get ss x) set ∙ m.1, m.2);
}

-- behind an entry that changes a server's pool
pub KeepsChecks-changed : (old new : Recorded) (lines : Lines) (topology : Topology) (servers : List ServerState) (time : Option ClusterTime) (last moment host : ℕ)
    (e : Entry) (f : Fact) (g : ServerState → ServerState) (s : ServerState) → LeadsTo old lines topology servers time last →
    Adds an_entry old.lists moment e f old new → Changes old moment host f g → slice_get servers host ≡ Some s → (g s).checks ≡ s.checks →
    KeepsChecks old.point.state new.point.state
KeepsChecks-changed old new lines topology servers time last moment host e f g s l adds c there same =
    let now = servers-changed old new lines topology servers time last moment host e f g s l adds c there in
    let before : old.point.state.servers ≡ servers = ap (λ (w : ClientState). w.servers) l.state in
    KeepsChecks-set old.point.state new.point.state host s (g s)
    (ap (λ (w : ClientState). w.topology) now ∙ sym (ap (λ (w : ClientState). w.topology) l.state))
    (ap (λ zs. slice_get zs host) before ∙ there)
    (ap (λ (w : ClientState). w.servers) now ∙ ap (λ zs. slice_set zs host (g s)) (sym before))
    (record { address = c.address s; stood = λ n. sym (c.has_left s) ∙ n; checks = λ n. same })

-- behind the entries with which a server leaves
pub KeepsChecks-dropped : (old new : Recorded) (moment host : ℕ) (s : ServerState) → Drops moment host s old new → slice_get old.point.state.servers host ≡ Some s →
    KeepsChecks old.point.state new.point.state
KeepsChecks-dropped old new moment host s d there =
    KeepsChecks-set old.point.state new.point.state host s (dropped moment s) (ap (λ (w : ClientState). w.topology) d.moves.state) there
    (ap (λ (w : ClientState). w.servers) d.moves.state)
    (record { address = refl; stood = λ (n : true ≡ false). absurd (cc); checks = λ (n : true ≡ false). absurd (cc) })

-- behind an event that asks for no check
pub offered-servers : (moment : ℕ) (e : TopoEvent) (w : ClientState) → asks_of e ≡ None → (offered_after moment e w).servers ≡ w.servers
offered-servers moment e w plain = ap (λ (v : ClientState). v.servers) (offered-plain moment e w plain)

-- ---- A server whose check broke is known no more

known-description : (o : Option ServerDescription) → ((d : ServerDescription) → o ≡ Some d → is_known d ≡ false) → option_map_or is_known o false ≡ false
known-description None h = refl
known-description (Some d) h = h d refl

behind-broken : (t : Topology) (a : Address) (d : ServerDescription) → StandsBehind t (event.Broken a None) a d → is_known d ≡ false
behind-broken t a d (inl is) = ap is_known is
behind-broken t a d (inr (inl own)) = ap is_known own.1
behind-broken t a d (inr (inr other)) = absurd (other.0 refl)

taken-broken : (o : Option ServerDescription) (t new : Topology) (a : Address) (generation : ℕ) → o ≡ map.get t.servers a → stands_known new a ≡ false →
    stands_known (if is_accepted_verdict (by_kept o (event.Broken a None) generation) then new else t) a ≡ false
taken-broken None t new a generation is unknown = sym (ap (λ o. option_map_or is_known o false) is)
taken-broken (Some d) t new a generation is unknown = unknown

pub broken-unknown : (w : ClientState) (e : TopoEvent) (a : Address) → e ≡ event.Broken a None →
    ((t : Topology) (e : TopoEvent) (x : Address) (d : ServerDescription) → map.get (rules.after t e).servers x ≡ Some d → StandsBehind t e x d) →
    stands_known (topology_after w e) a ≡ false
broken-unknown w e a is law =
    let b : TopoEvent = event.Broken a None in
    let after : stands_known (rules.after w.topology b) a ≡ false =
    known-description (map.get (rules.after w.topology b).servers a) (λ d at. behind-broken w.topology a d (law w.topology b a d at)) in
    ap (λ x. stands_known (topology_after w x) a) is
    ∙ taken-broken (map.get w.topology.servers a) w.topology (rules.after w.topology b) a (generation_for w b) refl after

-- ---- Behind the end of a check

checks-ended : (moment : ℕ) (h : CheckHow) (known : Bool) (s : ServerState) →
    (check_ends moment h known s).checks ≡ record { beat = s.checks.beat; due = next_check (is_again (end_of h) known) s.checks.beat moment; began = None; ended = Some moment }
checks-ended moment (how.Reply sample) known s = refl
checks-ended moment (how.Refused code) known s = refl
checks-ended moment how.Cut known s = refl
checks-ended moment how.Fault known s = refl
checks-ended moment how.Late known s = refl
checks-ended moment (how.Bad at) known s = refl
checks-ended moment how.NoDial known s = refl

address-ended : (moment : ℕ) (h : CheckHow) (known : Bool) (s : ServerState) → (check_ends moment h known s).address ≡ s.address
address-ended moment (how.Reply sample) known s = refl
address-ended moment (how.Refused code) known s = refl
address-ended moment how.Cut known s = refl
address-ended moment how.Fault known s = refl
address-ended moment how.Late known s = refl
address-ended moment (how.Bad at) known s = refl
address-ended moment how.NoDial known s = refl

-- the server behind the entry that tells it
pub at-ended : (old new : Recorded) (moment k : ℕ) (h : CheckHow) (s : ServerState) (e : Entry) → Adds an_entry old.lists moment e (fact.CheckEnded k h) old new →
    slice_get old.point.state.servers k ≡ Some s → slice_get new.point.state.servers k ≡ Some (check_ends moment h (stands_known old.point.state.topology s.address) s)
at-ended old new moment k h s e adds there =
    ap (λ (w : ClientState). slice_get w.servers k) (check.Changes-ended old new moment k h s e adds there).0.state
    ∙ slice_get-set_same old.point.state.servers k (check_ends moment h (stands_known old.point.state.topology s.address) s) s there

-- one that is not followed at once leaves the server at rest
pub IsAtRest-ended : (w v : ClientState) (moment k : ℕ) (h : CheckHow) (known : Bool) (s : ServerState) → slice_get w.servers k ≡ Some (check_ends moment h known s) →
    0 < s.checks.beat → is_again (end_of h) known ≡ false → KeepsChecks w v → IsAtRest v moment k
IsAtRest-ended w v moment k h known s at paced alone kept = λ t there stays.
    let m = kept.servers k (check_ends moment h known s) at in
    let both : Some m.0 ≡ Some t = sym m.1 ∙ there in
    let same : m.0 ≡ t = (cc) in
    let checks : t.checks ≡ record { beat = s.checks.beat; due = next_check false s.checks.beat moment; began = None; ended = Some moment } =
    subst (λ (u : ServerState). u.has_left ≡ false → u.checks ≡ (check_ends moment h known s).checks) same m.2.checks stays
    ∙ checks-ended moment h known s
    ∙ ap (λ (b : Bool). record { beat = s.checks.beat; due = next_check b s.checks.beat moment; began = None; ended = Some moment }) alone in
    let due : t.checks.due ≡ moment + s.checks.beat = ap (λ (c : Checks). c.due) checks in
    (ap (λ (c : Checks). c.began) checks, omega arith)

-- behind one that broke the server is not known
pub unknown-ended : (w v : ClientState) (moment k : ℕ) (h : CheckHow) (known : Bool) (s : ServerState) → slice_get w.servers k ≡ Some (check_ends moment h known s) →
    stands_known v.topology s.address ≡ false → KeepsChecks w v → is_known_at v k ≡ false
unknown-ended w v moment k h known s at unknown kept =
    let m = kept.servers k (check_ends moment h known s) at in
    ap (is_known_by v) m.1 ∙ ap (stands_known v.topology) (m.2.address ∙ address-ended moment h known s) ∙ unknown

again-unknown : (h : CheckHow) (known : Bool) → known ≡ false → is_again (end_of h) known ≡ false
again-unknown (how.Reply sample) known e = refl
again-unknown (how.Refused code) known e = refl
again-unknown how.Cut known e = e
again-unknown how.Fault known e = e
again-unknown how.Late known e = e
again-unknown (how.Bad at) known e = refl
again-unknown how.NoDial known e = refl

-- an end is a reply, or what is offered of it says that the check broke
by-reply : (host : Address) (began limit moment : ℕ) (answer : Pulled) (offered : TopoEvent) (h : CheckHow) → IsEndBy host began limit moment answer offered h →
    ((known : Bool) → is_again (end_of h) known ≡ false) ⊎ (offered ≡ event.Broken host None)
by-reply host began limit moment answer offered (how.Reply sample) by = inl (λ known. refl)
by-reply host began limit moment answer offered (how.Refused code) by = inr by.0
by-reply host began limit moment answer offered how.Cut by = inr by.0
by-reply host began limit moment answer offered how.Fault by = inr by.0
by-reply host began limit moment answer offered how.Late by = inr by.0
by-reply host began limit moment answer offered (how.Bad at) by = inr by
by-reply host began limit moment answer offered how.NoDial by = absurd by

is_known_at-there : (w : ClientState) (k : ℕ) (s : ServerState) → slice_get w.servers k ≡ Some s → is_known_at w k ≡ stands_known w.topology s.address
is_known_at-there w k s there = ap (is_known_by w) there

-- a check that ran and ended by what the net gave
pub HasEnded-driven : (u w v : ClientState) (host : Address) (began limit moment k : ℕ) (answer : Pulled) (offered : TopoEvent) (h : CheckHow) (s : ServerState) →
    slice_get u.servers k ≡ Some s → Runs began s → 0 < s.checks.beat → slice_get w.servers k ≡ Some (check_ends moment h (stands_known u.topology s.address) s) →
    host ≡ s.address → IsEndBy host began limit moment answer offered h → KeepsChecks (offered_after moment offered w) v → asks_of offered ≡ None →
    (offered ≡ event.Broken s.address None → stands_known v.topology s.address ≡ false) → HasEnded u v moment k
HasEnded-driven u w v host began limit moment k answer offered h s there runs paced at own by kept plain unknown =
    let x : ClientState = offered_after moment offered w in
    let known : Bool = stands_known u.topology s.address in
    let behind : slice_get x.servers k ≡ Some (check_ends moment h known s) = ap (λ ss. slice_get ss k) (offered-servers moment offered w plain) ∙ at in
    let rests : is_again (end_of h) known ≡ false → IsAtRest v moment k = λ alone. IsAtRest-ended x v moment k h known s behind paced alone kept in
    record {
      rests = elim (by-reply host began limit moment answer offered h by) [
        | inl never ↦ inl (rests (never known))
        | inr broke ↦ inr (unknown-ended x v moment k h known s behind (unknown (broke ∙ ap (λ a. event.Broken a None) own)) kept)
      ];
      alone = λ n. elim n [
        | inl quiet ↦ let none : s.checks.began ≡ None = (quiet s there runs.stays).0 in let no : None ≡ Some began = sym none ∙ runs.since in absurd (cc)
        | inr not_known ↦ rests (again-unknown h known (sym (is_known_at-there u k s there) ∙ not_known))
      ];
    }

-- ---- One step of a check

began-or-not : (o : Option ℕ) → (o ≡ None) ⊎ ((began : ℕ) × (o ≡ Some began))
began-or-not None = inl refl
began-or-not (Some began) = inr (began, refl)

-- where none is due and none runs, the server is at rest
pub IsAtRest-by : (w : ClientState) (moment host : ℕ) → (AtServer w host (IsDue moment) → ⊥) → (AtServer w host (λ s. (began : ℕ) × Runs began s) → ⊥) → IsAtRest w moment host
IsAtRest-by w moment host due runs = λ s there stays.
    elim (began-or-not s.checks.began) [
      | inl rests ↦ (rests, by_contra s there stays rests)
      | inr goes ↦ absurd (runs (s, there, (goes.0, record { stays = stays; since = goes.1 })))
    ]
  where
    by_contra : (s : ServerState) → slice_get w.servers host ≡ Some s → s.has_left ≡ false → s.checks.began ≡ None → moment < s.checks.due
    by_contra s there stays rests = elim (within s.checks.due moment) [
      | inl later ↦ later
      | inr now ↦ absurd (due (s, there, record { stays = stays; rests = rests; due = now }))
    ]
      where
        within : (a b : ℕ) → (b < a) ⊎ (a ≤ b)
        within zero b = inr (omega arith)
        within (suc a) zero = inl (omega arith)
        within (suc a) (suc b) = elim (within a b) [ inl h ↦ inl (omega arith) | inr h ↦ inr (omega arith) ]

pub HasEnded-rests : (w v : ClientState) (moment host : ℕ) → IsAtRest v moment host → HasEnded w v moment host
HasEnded-rests w v moment host rests = record { rests = inl rests; alone = λ n. rests }

-- a check that was due began, and what came of it
pub HasEnded-begun : (u w v : ClientState) (moment host : ℕ) → AtServer u host (IsDue moment) → IsAtRest w moment host ⊎ HasBegun u w host → HasEnded w v moment host →
    HasEnded u v moment host
HasEnded-begun u w v moment host due (inl rests) ended = record { rests = ended.rests; alone = λ n. ended.alone (inl rests) }
HasEnded-begun u w v moment host due (inr begun) ended = record {
  rests = ended.rests;
  alone = λ n. elim n [
    | inl quiet ↦ let later = (quiet due.0 due.1 due.2.stays).1 in let now = due.2.due in absurd (omega arith)
    | inr not_known ↦ ended.alone (inr (begun.known ∙ not_known))
  ];
}

-- a check that was due is at rest where none runs behind its beginning
pub HasEnded-undialled : (u w : ClientState) (moment host : ℕ) → IsAtRest w moment host ⊎ HasBegun u w host → (AtServer w host (λ s. (began : ℕ) × Runs began s) → ⊥) → HasEnded u w moment host
HasEnded-undialled u w moment host (inl rests) none = HasEnded-rests u w moment host rests
HasEnded-undialled u w moment host (inr begun) none = absurd (none begun.runs)
