-- What stands between two calls, behind each of them.
use Rattle.std.proofs.Common.{◌≡◌, ◌≤◌, ◌<◌, ℕ, ℤ, Bool, true, false, List, [], ◌∷◌, Option, None, Some, refl, sym, ap, ◌∙◌, subst, eq-eqb}
use Rattle.std.specs.Prelude.{IfNone, IfSome}
use Rattle.std.specs.Option.{option_map}
use Rattle.net_link.specs.Events.{Adds as AddsCalls, IsFresh, OnlyAt}
use Rattle.net_link.specs.Prefix.{IsPrefixOf}
use Rattle.net_link.specs.Seen.{Seen, seen}
use Rattle.net_link.specs.Streams.{KeepsOpenBut}
use Rattle.net_link.proofs.OnlyLemmas.{OnlyAt-one, OnlyAt-trans}
use Rattle.desk_wire.specs.Exchange.{Exchanges}
use Rattle.desk_wire.specs.Push.{Pushes, push_shuts}
use Rattle.desk_wire.specs.declared.answers.Pulled.{Pulled}
use Rattle.desk_wire.specs.declared.answers.Pushed.{Pushed}
use Rattle.net_link.proofs.SeenLemmas.{seen-dialled, seen-fresh}
use Rattle.net_link.specs.declared.event.NetEvent.{NetEvent}
use Rattle.net_link.specs.declared.event.NetEvent.TheVariants as event
use Rattle.topo_rules.specs.declared.event.TopoEvent.{TopoEvent}
use Rattle.desk_trail.specs.declared.entry.Entry.{Entry}
use Rattle.desk_trail.specs.declared.entry.OfferedHow.{OfferedHow}
use Rattle.desk_trail.specs.declared.request.Request.{Request}
use Rattle.desk_trail.specs.declared.room.Room.{Room}
use Rattle.desk_trail.specs.Facts.{Fact, Lists}
use Rattle.desk_trail.specs.Facts as fact
use Rattle.desk_trail.specs.Legal.{tells_reply}
use Rattle.desk_trail.specs.Streams.{Account, of_offered}
use Rattle.legal_trail.specs.Recorded.{Adds, Recorded}
use Rattle.wired_trail.specs.Faults.{IsUntold, tells_fault}
use Rattle.wired_trail.specs.Hearing.{HasUntoldDial, Heard, IsPlain, OffersOf, SpeaksOf, TellsHeard, WasHeard, told_of}
use Rattle.wired_trail.specs.Inside.{FitsAt, Holds, IsKept, KeepsPending, Pendings, Waits, pending_at, pending_behind, queued_on, stream_offered, told_on}
use Rattle.wired_trail.specs.Lines.{Begins, IsIdle, KeepsOthers, Lines, line_at, with_unsent}
use Rattle.wired_trail.specs.Standing.{HasLines}
use Rattle.wired_trail.specs.declared.lines.Line.{Line}
use Rattle.wired_trail.specs.declared.pending.Pending.{Pending}
use Rattle.wired_trail.specs.declared.pending.Pending.TheVariants as is
use Rattle.wired_trail.specs.declared.stream_use.StreamUse.{StreamUse}
use Rattle.wired_trail.specs.Wired.{HasCome, IsStreamWired, says_no_dial}
use Rattle.wired_trail.proofs.FaultLemmas.{counted-adds, counted-later, counted-quiet}
use Rattle.wired_trail.proofs.FitLemmas.{at-wired}
use Rattle.wired_trail.proofs.KeptLemmas.{dialled-fits, kept-asks, kept-at, kept-gone, kept-offered, kept-only, kept-silent, kept-told, one-dial, same-dials}
use Rattle.wired_trail.proofs.LineLemmas.{HasLines-adds, HasLines-begun, HasLines-gone, HasLines-still}
use Rattle.wired_trail.proofs.ToldLemmas.{no_dial, plain, result}
use Rattle.wired_trail.proofs.TurnLemmas.{TwoLines, heard, pushed-holds, turned-fits}

-- a net's history and mark, and the lines
pub IsKept-plain : (tells : Type 0) (live : ℕ → Type 0) (next faults : ℕ) (h : List NetEvent) (lines : Lines) (ps : Pendings) (used : Room) (lists : Lists) (moment : ℕ) (e : Entry) (f : Fact) (old new : Recorded) →
    ((s : ℕ) → live s → s < next) → Adds used lists moment e f old new → tells_fault e ≡ false → IsPlain lines f → IsKept tells live next faults h lines ps old → IsKept tells live next faults h lines ps new
IsKept-plain tells live next faults h lines ps used lists moment e f old new below adds quiet is k =
    let says = plain old.client old.point.state moment lines h f is in
    record {
      wires = HasLines-adds live next lines used lists moment e f old new below adds says.uses k.wires;
      counted = counted-quiet faults used lists moment e f old new adds quiet k.counted;
      told = λ t. kept-silent h next lines ps used lists moment e f old new adds says.silent (same-dials h next lines ps old f says.no_dial (k.told t)) says.time (k.told t);
    }

pub IsKept-told : (tells : Type 0) (live : ℕ → Type 0) (next faults : ℕ) (h : List NetEvent) (lines : Lines) (ps qs : Pendings) (used : Room) (lists : Lists) (moment : ℕ) (e : Entry) (f : Fact) (old new : Recorded) (stream : Option ℕ) (b : Bool) →
    ((s : ℕ) → live s → s < next) → Adds used lists moment e f old new → (tells_fault e ≡ true → IsUntold faults old.steps) → SpeaksOf old.client old.point.state moment stream f → (tells → TellsHeard h old moment f) → b ≡ tells_reply f →
    IfSome stream (λ s. pending_at qs s ≡ option_map (told_on b) (pending_at ps s)) → IfSome stream (λ s. KeepsPending s ps qs) → IfNone stream (qs ≡ ps) →
    IsKept tells live next faults h lines ps old → IsKept tells live next faults h lines qs new
IsKept-told tells live next faults h lines ps qs used lists moment e f old new stream b below adds one speaks heard kind marked pendings same k =
    let says = result old.client old.point.state moment stream lines h f speaks in
    record {
      wires = HasLines-adds live next lines used lists moment e f old new below adds says.uses k.wires;
      counted = counted-adds faults used lists moment e f old new adds one k.counted;
      told = λ t. kept-told h next lines ps qs used lists moment e f old new stream b adds says (heard t) kind marked pendings same (k.told t);
    }

pub IsKept-undialled : (tells : Type 0) (live : ℕ → Type 0) (next faults : ℕ) (h : List NetEvent) (lines : Lines) (ps : Pendings) (used : Room) (lists : Lists) (moment : ℕ) (e : Entry) (f : Fact) (old new : Recorded) →
    ((s : ℕ) → live s → s < next) → Adds used lists moment e f old new → (tells_fault e ≡ true → IsUntold faults old.steps) → says_no_dial f ≡ true → (tells → HasUntoldDial h old) → IsKept tells live next faults h lines ps old →
    IsKept tells live next faults h lines ps new
IsKept-undialled tells live next faults h lines ps used lists moment e f old new below adds one is untold k =
    let says = no_dial old.client old.point.state moment lines h f is in
    record {
      wires = HasLines-adds live next lines used lists moment e f old new below adds says.uses k.wires;
      counted = counted-adds faults used lists moment e f old new adds one k.counted;
      told = λ t. kept-silent h next lines ps used lists moment e f old new adds says.silent (one-dial h old f is (untold t)) says.time (k.told t);
    }

pub IsKept-time : (tells : Type 0) (live : ℕ → Type 0) (next faults : ℕ) (h : List NetEvent) (lines : Lines) (ps : Pendings) (used : Room) (lists : Lists) (moment stamp : ℕ) (e : Entry) (old new : Recorded) →
    ((s : ℕ) → live s → s < next) → Adds used lists moment e (fact.Time stamp) old new → tells_fault e ≡ false → (tells → HasCome h stamp) → IsKept tells live next faults h lines ps old →
    IsKept tells live next faults h lines ps new
IsKept-time tells live next faults h lines ps used lists moment stamp e old new below adds quiet came k = record {
  wires = HasLines-adds live next lines used lists moment e (fact.Time stamp) old new below adds tt k.wires;
  counted = counted-quiet faults used lists moment e (fact.Time stamp) old new adds quiet k.counted;
  told = λ t. kept-silent h next lines ps used lists moment e (fact.Time stamp) old new adds refl (same-dials h next lines ps old (fact.Time stamp) refl (k.told t)) (came t) (k.told t);
}

pub IsKept-offered : (tells : Type 0) (live : ℕ → Type 0) (next faults : ℕ) (h : List NetEvent) (lines : Lines) (ps qs : Pendings) (used : Room) (lists : Lists) (moment place : ℕ) (e : Entry) (x : TopoEvent) (taken : OfferedHow) (old new : Recorded) (stream : Option ℕ) →
    ((s : ℕ) → live s → s < next) → Adds used lists moment e (fact.Offered place x taken) old new → tells_fault e ≡ false → OffersOf old.point.state stream x → (tells → WasHeard h old (of_offered old.point.state x)) →
    IfSome (stream_offered x stream) (λ s. pending_at qs s ≡ option_map (told_on true) (pending_at ps s)) → IfSome (stream_offered x stream) (λ s. KeepsPending s ps qs) →
    IfNone (stream_offered x stream) (qs ≡ ps) → IsKept tells live next faults h lines ps old → IsKept tells live next faults h lines qs new
IsKept-offered tells live next faults h lines ps qs used lists moment place e x taken old new stream below adds quiet of heard marked pendings same k = record {
  wires = HasLines-adds live next lines used lists moment e (fact.Offered place x taken) old new below adds tt k.wires;
  counted = counted-quiet faults used lists moment e (fact.Offered place x taken) old new adds quiet k.counted;
  told = λ t. kept-offered h next lines ps qs used lists moment place e x taken old new stream adds of (heard t) marked pendings same (k.told t);
}

pub IsKept-asked : (tells : Type 0) (live : ℕ → Type 0) (next faults : ℕ) (h : List NetEvent) (lines moved : Lines) (ps qs : Pendings) (used : Room) (lists : Lists) (moment place : ℕ) (e : Entry) (r : Request) (old new : Recorded) →
    ((s : ℕ) → live s → s < next) → Adds used lists moment e (fact.Asked place r) old new → tells_fault e ≡ false → IsIdle lines r.stream → (tells → (told_of old r.stream).last ≡ None) →
    line_at moved r.stream ≡ option_map (with_unsent r.bytes) (line_at lines r.stream) → KeepsOthers r.stream lines moved →
    pending_at qs r.stream ≡ option_map (queued_on r.id) (pending_at ps r.stream) → KeepsPending r.stream ps qs → HasLines live next moved new.point.state.streams →
    IsKept tells live next faults h lines ps old → IsKept tells live next faults h moved qs new
IsKept-asked tells live next faults h lines moved ps qs used lists moment place e r old new below adds quiet idle free queued others marked pendings now k = record {
  wires = now;
  counted = counted-quiet faults used lists moment e (fact.Asked place r) old new adds quiet k.counted;
  told = λ t.
      kept-asks h next lines moved ps qs used lists moment e (fact.Asked place r) old new r adds refl idle (below r.stream (k.wires.each r.stream idle.line idle.there).is_open) (free t) queued others
      marked pendings refl tt (k.told t);
}

-- ---- Calls of the net

-- one that says nothing of a stream
pub IsKept-still : (tells : Type 0) (live now : ℕ → Type 0) (next mark faults after : ℕ) (h later : List NetEvent) (lines : Lines) (ps : Pendings) (r : Recorded) → next ≤ mark → faults ≤ after → ((s : ℕ) → live s → now s) →
    (tells → IsPrefixOf h later) → (tells → (t : ℕ) → seen t later ≡ seen t h) → IsKept tells live next faults h lines ps r → IsKept tells now mark after later lines ps r
IsKept-still tells live now next mark faults after h later lines ps r le rise opens grows views k = record {
  wires = HasLines-still live now next mark lines r.point.state.streams k.wires le opens;
  counted = counted-later faults after r.steps rise k.counted;
  told = λ t.
      kept-at h later next mark lines lines ps ps r 0 (grows t) (λ s _. views t s) le (λ _ _. refl) (λ _ _. refl)
      (subst (λ v. FitsAt (line_at lines 0) (pending_at ps 0) v (told_of r 0)) (sym (views t 0)) ((k.told t).streams 0)) (k.told t);
}

-- one behind which a stream is not used any more
pub IsKept-gone : (tells : Type 0) (live now : ℕ → Type 0) (next mark faults after : ℕ) (h later : List NetEvent) (lines moved : Lines) (ps qs : Pendings) (r : Recorded) (s : ℕ) → next ≤ mark → faults ≤ after → KeepsOpenBut s live now →
    (tells → IsPrefixOf h later) → (tells → (t : ℕ) → seen t later ≡ seen t h) → KeepsOthers s lines moved → line_at moved s ≡ None → KeepsPending s ps qs →
    IsKept tells live next faults h lines ps r → IsKept tells now mark after later moved qs r
IsKept-gone tells live now next mark faults after h later lines moved ps qs r s le rise opens grows views others gone pendings k = record {
  wires = HasLines-gone live now next mark s lines moved r.point.state.streams k.wires le others gone opens;
  counted = counted-later faults after r.steps rise k.counted;
  told = λ t. kept-gone h later next mark lines moved ps qs r s (grows t) (views t) le others gone pendings (k.told t);
}

-- a dial that gave a stream
pub IsKept-begun : (tells : Type 0) (live now : ℕ → Type 0) (next mark faults after : ℕ) (h later : List NetEvent) (lines moved : Lines) (ps qs : Pendings) (r : Recorded) (s : ℕ) (address : List ℕ) (use_for : StreamUse) →
    next ≤ mark → faults ≤ after → ((t : ℕ) → live t → now t) → now s → next ≤ s → (tells → AddsCalls (event.Dialled s address ∷ []) h later) → (tells → IsFresh s h) → Begins use_for lines moved s →
    pending_at qs s ≡ Some is.Nothing → KeepsPending s ps qs → IsKept tells live next faults h lines ps r → IsKept tells now mark after later moved qs r
IsKept-begun tells live now next mark faults after h later lines moved ps qs r s address use_for le rise opens here above adds fresh begins nothing pendings k = record {
  wires = HasLines-begun live now next mark s use_for lines moved r.point.state.streams k.wires le opens here begins;
  counted = counted-later faults after r.steps rise k.counted;
  told = λ t.
      kept-at h later next mark lines moved ps qs r s (adds t).grows (λ u _. seen-dialled u s address (adds t)) le begins.others pendings
      (rw (begins.now, nothing)
      (dialled-fits s use_for (seen s later) (told_of r s) (seen-dialled s s address (adds t) ∙ seen-fresh s h (fresh t)) ((k.told t).given s above)))
      (k.told t);
}

-- a call about a stream that is used on
pub IsKept-used : (tells : Type 0) (live now : ℕ → Type 0) (next mark faults after : ℕ) (h later : List NetEvent) (lines moved : Lines) (ps qs : Pendings) (r : Recorded) (s : ℕ) → next ≤ mark → faults ≤ after →
    HasLines now mark moved r.point.state.streams → (tells → OnlyAt s h later) → KeepsOthers s lines moved → KeepsPending s ps qs →
    (tells → FitsAt (line_at moved s) (pending_at qs s) (seen s later) (told_of r s)) → IsKept tells live next faults h lines ps r → IsKept tells now mark after later moved qs r
IsKept-used tells live now next mark faults after h later lines moved ps qs r s le rise wires only others pendings here k = record {
  wires = wires;
  counted = counted-later faults after r.steps rise k.counted;
  told = λ t. kept-only h later next mark lines moved ps qs r s (only t) le others pendings (here t) (k.told t);
}

-- ---- Turns

-- what waits on a stream, and what the wire has
pub waiting-at : (o : Option Line) (p : Option Pending) (l : Line) (id : ℤ) (v : Seen) (a : Account) → o ≡ Some l → p ≡ Some (is.Reply id) → FitsAt o p v a → Holds l.wire v a × Waits id a
waiting-at o p l id v a there waits f = rw (there, waits) at f

-- the stream fits as its wire does, by what is pending behind the turn
pub turned-at : (tells : Type 0) (s : ℕ) (id : ℤ) (answer : Pulled) (h later : List NetEvent) (o p : Option Line) (ps qs : Option Pending) (a : Account) (b : Line) → tells → o ≡ Some b →
    TwoLines b p (λ x n. Exchanges tells x.wire n.wire h later answer) → b.wire.stream ≡ s → ps ≡ Some (is.Reply id) → qs ≡ option_map (λ _. pending_behind answer id) ps →
    FitsAt o ps (seen s h) a → FitsAt p qs (seen s later) a
turned-at tells s id answer h later o p ps qs a b t was l own waits set f =
    let w = waiting-at o ps b id (seen s h) a was waits f in
    let now : qs ≡ Some (pending_behind answer id) = set ∙ ap (option_map (λ _. pending_behind answer id)) waits in
    rw (l.is, now) (turned-fits tells s b.wire l.now.wire h later answer id a t own l.so w.0 w.1)

pub heard-at : (tells : Type 0) (s : ℕ) (id : ℤ) (answer : Pulled) (h later : List NetEvent) (o p : Option Line) (ps : Option Pending) (a : Account) (b : Line) → tells → o ≡ Some b →
    TwoLines b p (λ x n. Exchanges tells x.wire n.wire h later answer) → b.wire.stream ≡ s → ps ≡ Some (is.Reply id) → FitsAt o ps (seen s h) a →
    Heard answer id (seen s later) a
heard-at tells s id answer h later o p ps a b t was l own waits f =
    let w = waiting-at o ps b id (seen s h) a was waits f in
    heard tells s b.wire l.now.wire h later answer id a t own l.so w.0 w.1

-- a push
abbrev pub IsPushed : (tells : Type 0) (s : ℕ) (answer : Pushed) (h later : List NetEvent) → Line → Line → Type 0
IsPushed tells s answer h later b n =
    (n ≡ record b { wire = record b.wire { unsent = n.wire.unsent; is_shut = push_shuts answer } }) × Pushes tells s b.wire.unsent n.wire.unsent h later answer

pub pushed-at : (tells : Type 0) (s : ℕ) (id : ℤ) (answer : Pushed) (h later : List NetEvent) (o p : Option Line) (ps : Option Pending) (a : Account) (b : Line) → tells → o ≡ Some b →
    TwoLines b p (IsPushed tells s answer h later) → ps ≡ Some (is.Reply id) → FitsAt o ps (seen s h) a → FitsAt p ps (seen s later) a
pushed-at tells s id answer h later o p ps a b t was l waits f =
    let w = waiting-at o ps b id (seen s h) a was waits f in
    let holds = pushed-holds tells s b.wire l.now.wire.unsent (push_shuts answer) h later answer a t l.so.1 w.0 in
    rw (l.is, waits) (subst (λ (n : Line). Holds n.wire (seen s later) a) (sym l.so.0) holds, w.1)

pub pushed-wired : (tells : Type 0) (s : ℕ) (id : ℤ) (answer : Pushed) (h later : List NetEvent) (o p : Option Line) (ps : Option Pending) (a : Account) (b : Line) → tells → o ≡ Some b →
    TwoLines b p (IsPushed tells s answer h later) → ps ≡ Some (is.Reply id) → FitsAt o ps (seen s h) a → IsStreamWired (seen s later) a
pushed-wired tells s id answer h later o p ps a b t was l waits f =
    at-wired p ps (seen s later) a (pushed-at tells s id answer h later o p ps a b t was l waits f)

-- a call about a stream, and its close
pub only-closed : (s : ℕ) (a b c : List NetEvent) → OnlyAt s a b → AddsCalls (event.Closed s ∷ []) b c → OnlyAt s a c
only-closed s a b c only closed = OnlyAt-trans only (OnlyAt-one s (event.Closed s) (eq-eqb s s refl) closed)

pub others-trans : (s : ℕ) (a b c : Lines) → KeepsOthers s a b → KeepsOthers s b c → KeepsOthers s a c
others-trans s a b c p q t apart = q t apart ∙ p t apart

-- what a push did to the line, and on the net
pub both-so : (tells : Type 0) (s : ℕ) (answer : Pushed) (h later : List NetEvent) (o p : Option Line) →
    IfSome o (λ b. IfSome p (λ n. n ≡ record b { wire = record b.wire { unsent = n.wire.unsent; is_shut = push_shuts answer } })) →
    IfSome o (λ b. IfSome p (λ n. Pushes tells s b.wire.unsent n.wire.unsent h later answer)) → IfSome o (λ b. IfSome p (λ n. IsPushed tells s answer h later b n))
both-so tells s answer h later None p same sends = tt
both-so tells s answer h later (Some b) None same sends = tt
both-so tells s answer h later (Some b) (Some n) same sends = (same, sends)
