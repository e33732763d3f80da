-- Farewells on one stream after another.
use Rattle.std.proofs.Common.{◌≡◌, ◌≢◌, ◌≤◌, ◌||◌, ℕ, ◌+◌, ℤ, Bool, true, false, List, [], ◌∷◌, ◌++◌, length, Option, None, Some, refl, sym, ap, ◌∙◌, subst, arith, inl, inr}
use Rattle.std.specs.Prelude.{nat_eq, is_some, slice_get}
use Rattle.std.specs.Option.{option_map}
use Rattle.std.specs.List.{list_any}
use Rattle.std.proofs.lemmas.Bool.Decides.{eqb_tells}
use Rattle.std.proofs.lemmas.List.{append-nil, append_assoc, length-append}
use Rattle.std.proofs.lemmas.List.Folds.{list_any-append}
use Rattle.topo_rules.specs.Readings.{session_minutes_of}
use Rattle.bson_doc.specs.declared.ids.Lsid.{Lsid}
use Rattle.cmd_build.specs.Handshakes.{farewell_document}
use Rattle.pool_book.specs.declared.connections.Available.{Available}
use Rattle.desk_trail.specs.declared.entry.Entry.TheVariants as entry
use Rattle.desk_trail.specs.declared.request.Purpose.TheVariants as purpose
use Rattle.desk_trail.specs.declared.request.Request.{Request}
use Rattle.desk_trail.specs.Facts as fact
use Rattle.desk_trail.specs.Legal.{StandsAt}
use Rattle.desk_trail.specs.Requests.{IsMessageOf, id_at}
use Rattle.desk_trail.specs.Written.{a_request}
use Rattle.sess_book.specs.Ending.{IsParted, kept_ids}
use Rattle.desk_trail.specs.States.{ClientState, ServerState}
use Rattle.legal_trail.specs.Recorded.{Adds, Recorded}
use Rattle.wired_trail.specs.Lines.{IsIdle, IsThere, KeepsOthers, Lines, line_at, with_unsent}
use Rattle.wired_trail.specs.Standing.{Standing}
use Rattle.end_sessions.specs.Carriers.{AreReadable, Carries, IsAsked, IsToAsk, IsToAskAt, KeepsFree}
use Rattle.end_sessions.specs.Farewells.{AsksFarewells, IsFreeOn, IsReadable, MayCarry}
use Rattle.end_sessions.proofs.FarewellLemmas.{AsksFarewells-one, AsksFarewells-same, AsksFarewells-trans, IsFarewell-next, StandsAt-farewell, farewells-one}

-- ---- What carries a farewell

either-false : (a b : Bool) → (a || b) ≡ false → a ≡ false
either-false true b h = absurd (cc)
either-false false b h = refl

either-first : (a b : Bool) → a ≡ true → (a || b) ≡ true
either-first true b h = refl
either-first false b h = absurd (cc)

either-last : (a : Bool) → (a || true) ≡ true
either-last true = refl
either-last false = refl

nat_eq-same : (n : ℕ) → nat_eq n n ≡ true
nat_eq-same n = elim (eqb_tells n n) [
  | inl w ↦ w.0
  | inr w ↦ absurd (w.1 refl)
]

-- the stream that was added
pub carries-last : (carriers : List ℕ) (stream : ℕ) → list_any (nat_eq stream) (carriers ++ stream ∷ []) ≡ true
carries-last carriers stream =
    list_any-append (nat_eq stream) carriers (stream ∷ [])
    ∙ ap (λ b. list_any (nat_eq stream) carriers || (b || false)) (nat_eq-same stream)
    ∙ either-last (list_any (nat_eq stream) carriers)

-- those that did still do
pub carries-still : (carriers more : List ℕ) (stream : ℕ) → list_any (nat_eq stream) carriers ≡ true → list_any (nat_eq stream) (carriers ++ more) ≡ true
carries-still carriers more stream h =
    list_any-append (nat_eq stream) carriers more ∙ either-first (list_any (nat_eq stream) carriers) (list_any (nat_eq stream) more) h

-- those that do not did not
pub free-before : (carriers more : List ℕ) (stream : ℕ) → list_any (nat_eq stream) (carriers ++ more) ≡ false → list_any (nat_eq stream) carriers ≡ false
free-before carriers more stream h =
    either-false (list_any (nat_eq stream) carriers) (list_any (nat_eq stream) more) (sym (list_any-append (nat_eq stream) carriers more) ∙ h)

free-apart : (carriers : List ℕ) (s stream : ℕ) → list_any (nat_eq s) (carriers ++ stream ∷ []) ≡ false → s ≢ stream
free-apart carriers s stream h = λ e.
    let does : list_any (nat_eq s) (carriers ++ stream ∷ []) ≡ true =
    subst (λ x. list_any (nat_eq s) (carriers ++ x ∷ []) ≡ true) e (carries-last carriers s) in absurd (cc)

pub KeepsFree-one : (carriers : List ℕ) (stream : ℕ) (old between new : Lines) → KeepsOthers stream old between → KeepsOthers stream between new →
    KeepsFree (carriers ++ stream ∷ []) old new
KeepsFree-one carriers stream old between new a b = λ s h. let apart = free-apart carriers s stream h in b s apart ∙ a s apart

-- ---- Ahead of the first farewell

pub there-is : {A : Type 0} (o : Option A) → is_some o ≡ true → (x : A) × (o ≡ Some x)
there-is {A} None h = absurd (cc)
there-is {A} (Some x) h = (x, refl)

pub IsToAsk-first : (r : Recorded) (closings moment : ℕ) (lists : List (List Lsid)) (carriers : List ℕ) (minutes : ℤ) → r.point.owed ≡ [] → r.point.moment ≤ moment →
    r.point.state.requests ≡ length r.lists.requests → r.point.state.farewells ≡ carriers → IsParted lists (kept_ids r.point.state.sessions) →
    session_minutes_of r.point.state.topology.servers ≡ Some minutes → closings ≤ r.room.steps → IsToAsk r closings moment lists carriers
IsToAsk-first r closings moment lists carriers minutes paid time counted known parted kept room = record {
  paid = paid;
  time = time;
  counted = counted;
  known = known;
  parted = parted;
  minutes = minutes;
  kept = kept;
  room = room;
}

-- ---- From one farewell to the next

pub Carries-same : {N : Type 0} (moment closings : ℕ) (old new : Standing N) (carriers : List ℕ) → AsksFarewells moment old.trail new.trail → new.lines ≡ old.lines →
    new.trail.point.state.farewells ≡ carriers → closings ≤ new.trail.room.steps → Carries moment closings old new carriers carriers
Carries-same {N} moment closings old new carriers asks lines known room = record {
  asks = asks;
  more = [];
  grows = sym (append-nil carriers);
  known = known;
  free = λ s h. ap (λ l. line_at l s) lines;
  room = room;
}

pub Carries-trans : {N : Type 0} (moment closings : ℕ) (old between new : Standing N) (a b c : List ℕ) → Carries moment closings old between a b → Carries moment closings between new b c →
    Carries moment closings old new a c
Carries-trans {N} moment closings old between new a b c x y = record {
  asks = AsksFarewells-trans moment old.trail between.trail new.trail x.asks y.asks;
  more = x.more ++ y.more;
  grows = y.grows ∙ ap (λ l. l ++ y.more) x.grows ∙ append_assoc a x.more y.more;
  known = y.known;
  free = λ s h. y.free s h ∙ x.free s (free-before b y.more s (sym (ap (list_any (nat_eq s)) y.grows) ∙ h));
  room = y.room;
}

-- a client that may ask may ask on
pub IsToAsk-behind : {N : Type 0} (moment closings : ℕ) (old new : Standing N) (lists : List (List Lsid)) (a b : List ℕ) → IsToAsk old.trail closings moment lists a →
    Carries moment closings old new a b → IsToAsk new.trail closings moment lists b
IsToAsk-behind {N} moment closings old new lists a b ready x = record {
  paid = x.asks.paid;
  time = x.asks.time;
  counted = x.asks.counted;
  known = x.known;
  parted = subst (λ (w : ClientState). IsParted lists (kept_ids w.sessions)) (sym x.asks.state) ready.parted;
  minutes = ready.minutes;
  kept = ap (λ (w : ClientState). session_minutes_of w.topology.servers) x.asks.state ∙ ready.kept;
  room = x.room;
}

pub IsToAskAt-behind : {N : Type 0} (moment closings : ℕ) (old new : Standing N) (s : ServerState) (a b : List ℕ) → IsToAskAt old.trail.point.state s →
    Carries moment closings old new a b → IsToAskAt new.trail.point.state s
IsToAskAt-behind {N} moment closings old new s a b at x = record {
  host = at.host;
  at = ap (λ (w : ClientState). slice_get w.servers at.host) x.asks.state ∙ at.at;
  stays = at.stays;
  readable = subst (λ (w : ClientState). IsReadable w.topology s.address) (sym x.asks.state) at.readable;
}

-- what was asked stays so
pub IsAsked-behind : (lists : List (List Lsid)) (a b more : List ℕ) (stream : ℕ) → b ≡ a ++ more → length b ≤ length lists → IsAsked a lists stream → IsAsked b lists stream
IsAsked-behind lists a b more stream grows few h = λ left.
    subst (λ (x : List ℕ). list_any (nat_eq stream) x ≡ true) (sym grows)
    (carries-still a more stream (h (λ full. left (fills full))))
  where
    fills : length a ≡ length lists → length b ≡ length lists
    fills full = let longer : length b ≡ length a + length more = ap length grows ∙ length-append a more in omega (arith, longer, few, full)

-- ---- One farewell

-- where only room was taken
abbrev pub IsSameBut : {N : Type 0} → Standing N → Standing N → Type 0
IsSameBut {N} old new = new ≡ record old { trail = record old.trail { room = new.trail.room } }

pub Carries-none : {N : Type 0} (moment closings : ℕ) (lists : List (List Lsid)) (old new : Standing N) (carriers : List ℕ) → IsToAsk old.trail closings moment lists carriers →
    IsSameBut old new → closings ≤ new.trail.room.steps → Carries moment closings old new carriers carriers
Carries-none {N} moment closings lists old new carriers ready same room =
    Carries-same moment closings old new carriers
    (AsksFarewells-same moment old.trail new.trail (ap (λ (s : Standing N). s.trail.client) same) (ap (λ (s : Standing N). s.trail.lists) same)
    (ap (λ (s : Standing N). s.trail.steps) same) (ap (λ (s : Standing N). s.trail.point) same) ready.counted ready.paid ready.time)
    (ap (λ (s : Standing N). s.lines) same) (ap (λ (s : Standing N). s.trail.point.state.farewells) same ∙ ready.known) room

pub StandsAt-next : {N : Type 0} (moment closings : ℕ) (lists : List (List Lsid)) (carriers : List ℕ) (old new : Standing N) (r : Request) (ids : List Lsid) → IsSameBut old new →
    IsToAsk old.trail closings moment lists carriers → MayCarry old.trail.point.state old.lines moment r.stream → list_any (nat_eq r.stream) carriers ≡ false →
    slice_get lists (length carriers) ≡ Some ids → r.purpose ≡ purpose.Farewell → r.id ≡ id_at (length old.trail.lists.requests) →
    IsMessageOf (farewell_document ids) r →
    StandsAt new.trail.client new.trail.point (record { at = moment; what = fact.Asked (length new.trail.lists.requests) r })
StandsAt-next {N} moment closings lists carriers old new r ids same ready may unused next is_for id message =
    subst (λ (s : Standing N). StandsAt s.trail.client s.trail.point (record { at = moment; what = fact.Asked (length s.trail.lists.requests) r })) (sym same)
    (StandsAt-farewell old.trail.client old.trail.point moment (length old.trail.lists.requests) r ready.paid ready.time (sym ready.counted) id is_for
    (IsFarewell-next old.trail closings moment lists carriers old.lines r ids ready may unused next message))

-- its stream is in use behind it
pub IsThere-queued : (lines moved : Lines) (stream s : ℕ) (bytes : List ℕ) → s ≡ stream → IsIdle lines stream →
    line_at moved s ≡ option_map (with_unsent bytes) (line_at lines s) → IsThere moved stream
IsThere-queued lines moved stream s bytes same idle queued = record {
  line = with_unsent bytes idle.line;
  there = subst (λ x. line_at moved x ≡ option_map (with_unsent bytes) (line_at lines x)) same queued ∙ ap (option_map (with_unsent bytes)) idle.there;
}

pub Carries-one : {N : Type 0} (moment closings place stream : ℕ) (lists : List (List Lsid)) (carriers : List ℕ) (old reserved asked sent : Standing N) (r : Request) →
    IsToAsk old.trail closings moment lists carriers → IsSameBut old reserved → closings + 1 ≤ reserved.trail.room.steps →
    Adds a_request (record reserved.trail.lists { requests = reserved.trail.lists.requests ++ r ∷ [] }) moment (entry.Asked place) (fact.Asked place r) reserved.trail asked.trail →
    KeepsOthers r.stream reserved.lines asked.lines → sent.trail ≡ asked.trail → KeepsOthers stream asked.lines sent.lines → r.stream ≡ stream → r.purpose ≡ purpose.Farewell →
    Carries moment closings old sent carriers (carriers ++ stream ∷ [])
Carries-one {N} moment closings place stream lists carriers old reserved asked sent r ready same room adds kept trail left on is_for =
    let known = ap (λ (s : Standing N). s.trail.point.state.farewells) same ∙ ready.known in
    let counted = ap (λ (s : Standing N). s.trail.point.state.requests) same ∙ ready.counted ∙ sym (ap (λ (s : Standing N). length s.trail.lists.requests) same) in
    let paid = ap (λ (s : Standing N). s.trail.point.owed) same ∙ ready.paid in
    let used = adds.room_used.steps in
    Carries-trans moment closings old reserved sent carriers carriers (carriers ++ stream ∷ [])
    (Carries-none moment closings lists old reserved carriers ready same (omega (arith, room)))
    (record {
      asks = subst (λ (t : Recorded). AsksFarewells moment reserved.trail t) (sym trail) (AsksFarewells-one moment place r reserved.trail asked.trail adds is_for counted paid);
      more = stream ∷ [];
      grows = refl;
      known = ap (λ (t : Recorded). t.point.state.farewells) trail ∙ farewells-one moment place r reserved.trail asked.trail adds is_for
          ∙ ap (λ (xs : List ℕ). xs ++ r.stream ∷ []) known ∙ ap (λ x. carriers ++ x ∷ []) on;
      free = KeepsFree-one carriers stream reserved.lines asked.lines sent.lines (subst (λ x. KeepsOthers x reserved.lines asked.lines) on kept) left;
      room = subst (λ (t : Recorded). closings ≤ t.room.steps) (sym trail) (omega (arith, room, used));
    })

-- a connection that was asked of, where the streams ahead of it were
pub IsAsked-next : {N : Type 0} (moment closings : ℕ) (lists : List (List Lsid)) (s : ServerState) (free : Available) (old between new : Standing N) (a b c : List ℕ) (stream : ℕ) →
    Carries moment closings old between a b → Carries moment closings between new b c → IsFreeOn s free old.lines moment stream →
    (IsFreeOn s free between.lines moment stream → IsAsked c lists stream) → IsAsked c lists stream
IsAsked-next {N} moment closings lists s free old between new a b c stream x y is asked = by (list_any (nat_eq stream) b) refl
  where
    by : (t : Bool) → list_any (nat_eq stream) b ≡ t → IsAsked c lists stream
    by true has = λ left. subst (λ (xs : List ℕ). list_any (nat_eq stream) xs ≡ true) (sym y.grows) (carries-still b y.more stream has)
    by false none = asked (record {
      sound = is.sound;
      on = is.on;
      idle = record { line = is.idle.line; there = x.free stream none ∙ is.idle.there; sent = is.idle.sent };
    })
