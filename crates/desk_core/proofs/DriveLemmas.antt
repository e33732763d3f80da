-- A check that is driven: the stream that it has, what a desk keeps behind a turn of it, and what follows its end.
use Rattle.std.proofs.Common.{◌≡◌, ◌≢◌, ◌≤◌, ℕ, zero, suc, ◌+◌, Bool, true, false, List, [], ◌∷◌, ◌++◌, length, get_or, Option, None, Some, refl, sym, ap, ◌∙◌, subst, arith}
use Rattle.std.specs.Prelude.{drop, slice_get, slice_set}
use Rattle.std.proofs.lemmas.List.{length-map}
use Rattle.bson_doc.specs.declared.cluster_time.ClusterTime.{ClusterTime}
use Rattle.host_name.specs.Addresses.{Address}
use Rattle.net_link.specs.Causes.{Rose}
use Rattle.topo_rules.specs.declared.event.TopoEvent.{TopoEvent}
use Rattle.topo_rules.specs.declared.topology.Topology.{Topology}
use Rattle.desk_wire.specs.declared.answers.Pulled.{Pulled}
use Rattle.desk_trail.specs.declared.entry.CheckHow.{CheckHow}
use Rattle.desk_trail.specs.declared.entry.CheckHow.TheVariants as how
use Rattle.desk_trail.specs.declared.entry.Entry.TheVariants as entry
use Rattle.desk_trail.specs.declared.room.Room.{Room}
use Rattle.desk_trail.specs.Checks.{AtServer, Runs, offered_of}
use Rattle.desk_trail.specs.Clients.{connect_limit}
use Rattle.desk_trail.specs.Facts.{Lists}
use Rattle.desk_trail.specs.Facts as fact
use Rattle.desk_trail.specs.Legal.{Point, StandsAt, is_reply_end}
use Rattle.desk_trail.specs.States.{ClientState, ServerState}
use Rattle.desk_trail.specs.Written.{an_entry}
use Rattle.legal_trail.specs.Recorded.{Adds, Recorded}
use Rattle.wired_trail.specs.Faults.{tells_fault}
use Rattle.wired_trail.specs.Lines.{KeepsOthers, Lines, line_at}
use Rattle.wired_trail.specs.declared.lines.Line.{Line}
use Rattle.wired_trail.specs.declared.stream_use.StreamUse.TheVariants as for_use
use Rattle.desk_core.specs.Appends.{AppendsAside}
use Rattle.desk_core.specs.Driven.{IsKeptIdle, IsStillUsed}
use Rattle.desk_core.specs.Ends.{IsEndBy, IsOfReply}
use Rattle.desk_core.specs.Kept.{IsKept, LeadsTo}
use Rattle.desk_core.specs.Servers.{AreKeptServers, HasStream}
use Rattle.desk_core.proofs.AppendsLemmas.{Appends-adds, Appends-quiet, Appends-room, Appends-trans, AreLonger-refl, kept-by_end}
use Rattle.desk_core.proofs.CheckLemmas.{EndsOn, IsOwedBy, MayEnd-by, StandsAt-ended, none_kept, one_kept}
use Rattle.desk_core.proofs.DropLemmas.{read-there}
use Rattle.desk_core.proofs.KeptLemmas.{servers-of}
use Rattle.desk_core.proofs.ServerLemmas.{AreKeptServers-closed}

-- ---- The stream of a check that runs

-- the stream that is there is in use for the checks of that server
pub record HasLine (lines : Lines) (k : ℕ) (o : Option ℕ) : Type 0 where
  pub stream : ℕ
  pub is : o ≡ Some stream
  pub line : Line
  pub there : line_at lines stream ≡ Some line
  pub is_for : line.is_for ≡ for_use.Check k

HasLine-by : (lines : Lines) (k since : ℕ) (began o : Option ℕ) → began ≡ Some since → HasStream lines k began o → HasLine lines k o
HasLine-by lines k since began None e h = let no : None ≡ Some since = sym h ∙ e in absurd (cc)
HasLine-by lines k since began (Some stream) e h = record { stream = stream; is = refl; line = h.0; there = h.1; is_for = h.2 }

-- a server of a desk that runs, a check of which runs
pub record IsRunning (trail : Recorded) (lines : Lines) (ss : List ServerState) (host : ℕ) : Type 0 where
  pub server : ServerState
  pub there : slice_get ss host ≡ Some server
  pub at_point : slice_get trail.point.state.servers host ≡ Some server
  pub since : ℕ
  pub runs : Runs since server
  pub on : HasLine lines host server.check_stream
  pub going : trail.point.state.is_ending ≡ false

pub IsRunning-of : (trail : Recorded) (lines : Lines) (topology : Topology) (ss : List ServerState) (time : Option ClusterTime) (count last : ℕ) (stopped : Bool) (host : ℕ) →
    IsKept trail lines topology ss time count last stopped → stopped ≡ false → AtServer trail.point.state host (λ s. (began : ℕ) × Runs began s) → IsRunning trail lines ss host
IsRunning-of trail lines topology ss time count last stopped host k goes at =
    let h = k.leads goes in
    let there : slice_get ss host ≡ Some at.0 = ap (λ zs. slice_get zs host) (sym (servers-of trail lines topology ss time last h)) ∙ at.1 in
    let kept = h.kept host at.0 there in
    record {
      server = at.0;
      there = there;
      at_point = at.1;
      since = at.2.0;
      runs = at.2.1;
      on = HasLine-by lines host at.2.0 at.0.checks.began at.0.check_stream at.2.1.since kept.checked;
      going = ap (λ (w : ClientState). w.is_ending) h.state;
    }

-- the same, where it is known on which stream and since when
pub record IsDriven (trail : Recorded) (lines : Lines) (ss : List ServerState) (host stream began : ℕ) : Type 0 where
  pub server : ServerState
  pub there : slice_get ss host ≡ Some server
  pub at_point : slice_get trail.point.state.servers host ≡ Some server
  pub runs : Runs began server
  pub has : server.check_stream ≡ Some stream
  pub line : Line
  pub line_there : line_at lines stream ≡ Some line
  pub is_for : line.is_for ≡ for_use.Check host
  pub going : trail.point.state.is_ending ≡ false

pub IsDriven-of : (trail : Recorded) (lines : Lines) (ss : List ServerState) (host stream began : ℕ) (x : ServerState) → IsRunning trail lines ss host →
    x ≡ get_or ss host x → x.check_stream ≡ Some stream → x.checks.began ≡ Some began → IsDriven trail lines ss host stream began
IsDriven-of trail lines ss host stream began x r read has since =
    let is : x ≡ r.server = read-there ss host r.server x r.there read in
    let streams : r.server.check_stream ≡ Some stream = ap (λ (s : ServerState). s.check_stream) (sym is) ∙ has in
    let both : Some stream ≡ Some r.on.stream = sym streams ∙ r.on.is in
    let same : stream ≡ r.on.stream = (cc) in
    record {
      server = r.server;
      there = r.there;
      at_point = r.at_point;
      runs = record { stays = r.runs.stays; since = ap (λ (s : ServerState). s.checks.began) (sym is) ∙ since };
      has = streams;
      line = r.on.line;
      line_there = ap (line_at lines) same ∙ r.on.there;
      is_for = r.on.is_for;
      going = r.going;
    }

-- ---- Behind a turn whose answer is still waited for

slice_set-same : {A : Type 0} (xs : List A) (k : ℕ) (x : A) → slice_get xs k ≡ Some x → slice_set xs k x ≡ xs
slice_set-same [] k x h = refl
slice_set-same (z ∷ zs) zero x h = let is : x ≡ z = (cc) in ap (λ v. v ∷ zs) is
slice_set-same (z ∷ zs) (suc k) x h = ap (λ vs. z ∷ vs) (slice_set-same zs k x h)

HasStream-still : (before lines : Lines) (k stream since : ℕ) (began o : Option ℕ) (line : Line) → o ≡ Some stream → began ≡ Some since → line_at before stream ≡ Some line →
    line.is_for ≡ for_use.Check k → IsStillUsed before lines stream → HasStream lines k began o
HasStream-still before lines k stream since began o line has runs there is_for still =
    let both : Some still.before ≡ Some line = sym still.was ∙ there in
    let same : still.before ≡ line = (cc) in
    subst (λ p. HasStream lines k began p) (sym has)
    (still.now, still.there, still.is_for ∙ ap (λ (l : Line). l.is_for) same ∙ is_for, λ (e : began ≡ None). let no : None ≡ Some since = sym e ∙ runs in absurd (cc))

AreKept-still : (trail : Recorded) (before lines : Lines) (ss : List ServerState) (n host stream began : ℕ) → IsDriven trail before ss host stream began →
    KeepsOthers stream before lines → IsStillUsed before lines stream → AreKeptServers before n ss → AreKeptServers lines n ss
AreKept-still trail before lines ss n host stream began d others still kept =
    let k = kept host d.server d.there in
    subst (λ zs. AreKeptServers lines n zs) (slice_set-same ss host d.server d.there)
    (AreKeptServers-closed before lines n ss host stream d.server d.line d.line_there d.is_for others kept
    (record {
      paid = k.paid;
      is_open = k.is_open;
      generation = k.generation;
      entered = k.entered;
      checked =
          HasStream-still before lines host stream began d.server.checks.began d.server.check_stream d.line d.has d.runs.since d.line_there d.is_for still;
      paced = k.paced;
    }))

pub IsKept-still : (old new : Recorded) (before lines : Lines) (topology : Topology) (ss : List ServerState) (time : Option ClusterTime) (count last host stream began : ℕ)
    (stopped : Bool) → IsDriven old before ss host stream began → new ≡ old → KeepsOthers stream before lines → IsStillUsed before lines stream →
    IsKept old before topology ss time count last stopped → IsKept new lines topology ss time count last stopped
IsKept-still old new before lines topology ss time count last host stream began stopped d same others still k =
    subst (λ (t : Recorded). IsKept t lines topology ss time count last stopped) (sym same)
    (record {
      leads = λ runs.
          let h = k.leads runs in
          record {
            state = h.state;
            greatest = h.greatest;
            moment = h.moment;
            names = h.names;
            numbers = h.numbers;
            room = h.room;
            kept = AreKept-still old before lines ss (length old.steps) host stream began d others still h.kept;
          };
      counted = k.counted;
      in_range = k.in_range;
    })

-- ---- Behind the end of a check

pub EndsOn-by : (before lines : Lines) (host stream : ℕ) (h : CheckHow) (o : Option ℕ) (line : Line) → o ≡ Some stream → line_at before stream ≡ Some line →
    line.is_for ≡ for_use.Check host → ((sample : ℕ) → h ≡ how.Reply sample → IsKeptIdle before lines stream) → EndsOn lines host h o
EndsOn-by before lines host stream (how.Reply sample) o line has there is_for idle =
    let i = idle sample refl in
    let both : Some i.still.before ≡ Some line = sym i.still.was ∙ there in
    let same : i.still.before ≡ line = (cc) in
    one_kept stream i.still.now has i.still.there (i.still.is_for ∙ ap (λ (l : Line). l.is_for) same ∙ is_for) i.sent
EndsOn-by before lines host stream (how.Refused code) o line has there is_for idle = none_kept refl
EndsOn-by before lines host stream how.Cut o line has there is_for idle = none_kept refl
EndsOn-by before lines host stream how.Fault o line has there is_for idle = none_kept refl
EndsOn-by before lines host stream how.Late o line has there is_for idle = none_kept refl
EndsOn-by before lines host stream (how.Bad at) o line has there is_for idle = none_kept refl
EndsOn-by before lines host stream how.NoDial o line has there is_for idle = none_kept refl

pub not-undialled : (host : Address) (began limit moment : ℕ) (answer : Pulled) (offered : TopoEvent) (h : CheckHow) → IsEndBy host began limit moment answer offered h → h ≡ how.NoDial → ⊥
not-undialled host began limit moment answer offered h by e = subst (λ g. IsEndBy host began limit moment answer offered g) e by

-- of the ends of a check that ran only one by a fault tells of one
pub fault-ended : (k : ℕ) (h : CheckHow) → (h ≡ how.NoDial → ⊥) → tells_fault (entry.CheckEnded k h) ≡ true → h ≡ how.Fault
fault-ended k (how.Reply sample) ran e = absurd (cc)
fault-ended k (how.Refused code) ran e = absurd (cc)
fault-ended k how.Cut ran e = absurd (cc)
fault-ended k how.Fault ran e = refl
fault-ended k how.Late ran e = absurd (cc)
fault-ended k (how.Bad at) ran e = absurd (cc)
fault-ended k how.NoDial ran e = absurd (ran refl)

Rose-later : (a b c : ℕ) → Rose a b → b ≤ c → Rose a c
Rose-later a b c rose later = omega arith

-- the failed call that an end tells
pub Rose-by : (host : Address) (k began limit moment a b c : ℕ) (answer : Pulled) (offered : TopoEvent) (h : CheckHow) → IsEndBy host began limit moment answer offered h →
    (h ≡ how.Fault → Rose a b) → b ≤ c → tells_fault (entry.CheckEnded k h) ≡ true → Rose a c
Rose-by host k began limit moment a b c answer offered h by rose later e =
    Rose-later a b c (rose (fault-ended k h (not-undialled host began limit moment answer offered h by) e)) later

pub IsReply-by : (h : CheckHow) (time : Option ClusterTime) → IsOfReply h time → time ≢ None → is_reply_end h ≡ true
IsReply-by h None of n = absurd (n refl)
IsReply-by h (Some t) of n = of

-- it may stand where the trail is as it was ahead of the turn
pub StandsAt-driven : (old new : Recorded) (lines : Lines) (ss : List ServerState) (host stream began limit moment : ℕ) (answer : Pulled) (offered : TopoEvent) (h : CheckHow)
    (a : Address) → IsDriven old lines ss host stream began → new ≡ old → old.point.owed ≡ [] → old.point.moment ≤ moment → limit ≡ began + connect_limit old.client →
    IsEndBy a began limit moment answer offered h → StandsAt new.client new.point (record { at = moment; what = fact.CheckEnded host h })
StandsAt-driven old new lines ss host stream began limit moment answer offered h a d same paid at limits by =
    subst (λ (t : Recorded). StandsAt t.client t.point (record { at = moment; what = fact.CheckEnded host h })) (sym same)
    (StandsAt-ended old.client old.point moment host h paid at d.going
    (d.server, d.at_point, MayEnd-by old.client a began limit moment answer offered h d.server limits d.runs by))

-- what must come next behind it
pub owed-ended : (old between new : Recorded) (moment host : ℕ) (s : ServerState) (h : CheckHow) (offered : TopoEvent) → between ≡ old →
    Adds an_entry between.lists moment (entry.CheckEnded host h) (fact.CheckEnded host h) between new → slice_get old.point.state.servers host ≡ Some s → old.point.owed ≡ [] →
    (o : IsOwedBy h s offered) → new.point.owed ≡ o.first ∷ []
owed-ended old between new moment host s h offered same adds there paid o =
    ap (λ (p : Point). p.owed) adds.point_now
    ∙ ap (λ (t : Recorded). offered_of h (slice_get t.point.state.servers host) ++ drop 1 t.point.owed) same
    ∙ ap (λ u. offered_of h u ++ drop 1 old.point.owed) there
    ∙ ap (λ ds. offered_of h (Some s) ++ drop 1 ds) paid
    ∙ ap (λ ds. ds ++ []) o.is

pub length-names : (old between new : Recorded) (lines : Lines) (topology : Topology) (ss : List ServerState) (time : Option ClusterTime) (last moment host : ℕ) (h : CheckHow) →
    between ≡ old → Adds an_entry between.lists moment (entry.CheckEnded host h) (fact.CheckEnded host h) between new → LeadsTo old lines topology ss time last →
    length new.lists.names ≡ length ss
length-names old between new lines topology ss time last moment host h same adds l =
    ap (λ (x : Lists). length x.names) adds.lists_now ∙ ap (λ (t : Recorded). length t.lists.names) same ∙ ap length l.names
    ∙ length-map ss (λ (s : ServerState). s.address)

pub Appends-ended : {R : Type 0} (old between new end : Recorded) (room : Room) (moment host : ℕ) (h : CheckHow) → between ≡ record old { room = room } →
    Adds an_entry between.lists moment (entry.CheckEnded host h) (fact.CheckEnded host h) between new → (tells_fault (entry.CheckEnded host h) ≡ true → R) →
    AppendsAside ⊥ moment new end → AppendsAside R moment old end
Appends-ended {R} old between new end room moment host h same adds tells then =
    Appends-trans moment old between end (Appends-room moment old between room same)
    (Appends-trans moment between new end
    (Appends-adds an_entry between.lists moment (entry.CheckEnded host h) (fact.CheckEnded host h) between new (AreLonger-refl between.lists) adds tells (kept-by_end between.client moment between.point.state host h))
    (Appends-quiet moment new end then))
