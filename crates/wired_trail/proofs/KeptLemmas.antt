-- What a wired trail keeps behind each of its calls.
use Rattle.std.proofs.Common.{◌≡◌, ◌≢◌, ◌≤◌, ◌<◌, inl, inr, ℕ, ◌+◌, Bool, true, false, List, [], ◌∷◌, ◌++◌, Option, None, Some, length, refl, sym, ap, ◌∙◌, subst, arith, cond, eq-eqb, ne_eqb, length-append}
use Rattle.std.specs.Prelude.{All, IfNone, IfSome, filter}
use Rattle.std.specs.Option.{option_map}
use Rattle.std.proofs.lemmas.Bool.Decides.{eqb_tells}
use Rattle.std.proofs.lemmas.List.Elements.{filter-append}
use Rattle.entry_judge.specs.declared.timed.Timed.{Timed}
use Rattle.msg_wire.specs.Messages.{Begins}
use Rattle.msg_wire.proofs.Partings.{Begins-more}
use Rattle.net_link.specs.Events.{Adds as AddsCalls, OnlyAt, is_call}
use Rattle.net_link.specs.Prefix.{IsPrefixOf}
use Rattle.net_link.specs.Seen.{Seen, gained, seen, unseen}
use Rattle.net_link.specs.declared.event.NetEvent.{NetEvent}
use Rattle.net_link.specs.declared.event.NetEvent.TheVariants as event
use Rattle.net_link.proofs.GainLemmas.{gained-joins}
use Rattle.net_link.proofs.OnlyLemmas.{seen-elsewhere}
use Rattle.net_link.proofs.SeenLemmas.{seen-nil}
use Rattle.desk_wire.specs.State.{opened}
use Rattle.topo_rules.specs.declared.event.TopoEvent.{TopoEvent}
use Rattle.topo_rules.specs.declared.event.TopoEvent.TheVariants as topo
use Rattle.desk_trail.specs.declared.entry.Entry.{Entry}
use Rattle.desk_trail.specs.declared.entry.OfferedHow.{OfferedHow}
use Rattle.desk_trail.specs.Legal.{tells_reply}
use Rattle.desk_trail.specs.declared.request.Request.{Request}
use Rattle.desk_trail.specs.declared.room.Room.{Room}
use Rattle.desk_trail.specs.Clients.{Client}
use Rattle.desk_trail.specs.Facts.{Fact, Lists, facts_of}
use Rattle.desk_trail.specs.Facts as fact
use Rattle.desk_trail.specs.Streams.{Account, Result, mention_of, no_account, of_offered, with_mention, with_result}
use Rattle.desk_trail.specs.Streams as told
use Rattle.legal_trail.specs.Recorded.{Adds, Recorded, told_in}
use Rattle.wired_trail.specs.Hearing.{HasUntoldDial, IsHeard, OffersOf, TellsHeard, WasHeard, told_of}
use Rattle.wired_trail.specs.Inside.{FitsAt, IsTold, KeepsPending, Pendings, pending_at, queued_on, stream_offered, told_on}
use Rattle.wired_trail.specs.Lines.{IsIdle, KeepsOthers, Lines, line_at, with_unsent}
use Rattle.wired_trail.specs.Wired.{HasCome, IfTime, IsStreamWired, IsWired, is_no_dial, no_dials_in, no_dials_told, says_no_dial}
use Rattle.wired_trail.specs.declared.stream_use.StreamUse.{StreamUse}
use Rattle.wired_trail.specs.declared.pending.Pending.TheVariants as is
use Rattle.wired_trail.proofs.FitLemmas.{asked-at, at-gone, at-wired, front-nil, is_answer, told-fits}
use Rattle.wired_trail.proofs.ToldLemmas.{SaysResult, answers_in, no_dials-with, one_if, tells-of, times-with, told-adds, told-nothing}

-- ---- The whole

pub kept-wired : (h : List NetEvent) (next : ℕ) (lines : Lines) (ps : Pendings) (r : Recorded) → IsTold h next lines ps r → IsWired r.client h (told_in r)
kept-wired h next lines ps r k = record {
  streams = λ s. at-wired (line_at lines s) (pending_at ps s) (seen s h) (told_of r s) (k.streams s);
  dials = k.dials;
  times = k.times;
}

-- ---- A longer history

pub no_dials-later : (a b : List NetEvent) → IsPrefixOf a b → no_dials_in a ≤ no_dials_in b
no_dials-later a b p =
    let parts : no_dials_in b ≡ no_dials_in a + no_dials_in p.more =
    ap no_dials_in (sym p.joined) ∙ ap length (filter-append is_no_dial a p.more) ∙ length-append (filter is_no_dial a) (filter is_no_dial p.more) in
    omega (arith, parts)

come-later : (a b : List NetEvent) (stamp : ℕ) → IsPrefixOf a b → HasCome a stamp → HasCome b stamp
come-later a b stamp p c =
    let joins = gained-joins c.stream a b p in
    record {
      stream = c.stream;
      messages = c.messages;
      rest = c.rest ++ (gained c.stream a b).came;
      came = subst (λ (l : List ℕ). Begins l c.messages (c.rest ++ (gained c.stream a b).came)) (sym joins.came)
          (Begins-more (seen c.stream a).came c.messages c.rest (gained c.stream a b).came c.came);
      message = c.message;
      among = c.among;
      carries = c.carries;
    }

time-later : (a b : List NetEvent) (f : Fact) → IsPrefixOf a b → IfTime a f → IfTime b f
time-later a b (fact.Time stamp) p t = come-later a b stamp p t
time-later a b (fact.Named x address) p t = tt
time-later a b (fact.Dropped x) p t = tt
time-later a b (fact.Offered place e taken) p t = tt
time-later a b (fact.PoolReady x) p t = tt
time-later a b (fact.PoolClear x) p t = tt
time-later a b (fact.PoolShut x) p t = tt
time-later a b (fact.CheckBegan x stream) p t = tt
time-later a b (fact.CheckDry x) p t = tt
time-later a b (fact.CheckEnded x how) p t = tt
time-later a b (fact.Looked op y z kept picked) p t = tt
time-later a b (fact.Entered op x ticket) p t = tt
time-later a b (fact.Lent op x conn) p t = tt
time-later a b (fact.Dialled op x conn stream) p t = tt
time-later a b (fact.Settled op x conn stale) p t = tt
time-later a b (fact.NotLent op x why) p t = tt
time-later a b (fact.CheckedIn op x conn errored) p t = tt
time-later a b (fact.ConnShut x conn reason) p t = tt
time-later a b (fact.Leased op place lsid fresh) p t = tt
time-later a b (fact.Drew op number) p t = tt
time-later a b (fact.Returned op dirty kept) p t = tt
time-later a b (fact.Asked place request) p t = tt
time-later a b (fact.Ended op end) p t = tt
time-later a b (fact.Finished op outcome) p t = tt

pub wired-later : (client : Client) (a b : List NetEvent) (facts : List (Timed Fact)) → IsPrefixOf a b → ((s : ℕ) → seen s b ≡ seen s a) →
    IsWired client a facts → IsWired client b facts
wired-later client a b facts p same w =
    let more = no_dials-later a b p in
    record {
      streams = λ s. subst (λ v. IsStreamWired v (told.account client s facts)) (sym (same s)) (w.streams s);
      dials = omega (arith, more, w.dials);
      times = λ k d q. time-later a b _ p (w.times k d q);
    }

-- ---- A call of the net, about one stream

pub kept-at : (h later : List NetEvent) (next mark : ℕ) (lines moved : Lines) (ps qs : Pendings) (r : Recorded) (s : ℕ) → IsPrefixOf h later →
    ((t : ℕ) → t ≢ s → seen t later ≡ seen t h) → next ≤ mark → KeepsOthers s lines moved → KeepsPending s ps qs →
    FitsAt (line_at moved s) (pending_at qs s) (seen s later) (told_of r s) → IsTold h next lines ps r → IsTold later mark moved qs r
kept-at h later next mark lines moved ps qs r s p views le others pendings here k =
    let more = no_dials-later h later p in
    record {
      streams = λ t. elim (eqb_tells t s) [
        | inl q ↦ subst (λ x. FitsAt (line_at moved x) (pending_at qs x) (seen x later) (told_of r x)) (sym q.1) here
        | inr q ↦ rw (others t q.1, pendings t q.1, views t q.1) (k.streams t)
      ];
      given = λ t above. k.given t (omega (arith, le, above));
      dials = omega (arith, more, k.dials);
      times = λ n d q. time-later h later _ p (k.times n d q);
    }

pub kept-only : (h later : List NetEvent) (next mark : ℕ) (lines moved : Lines) (ps qs : Pendings) (r : Recorded) (s : ℕ) → OnlyAt s h later → next ≤ mark →
    KeepsOthers s lines moved → KeepsPending s ps qs → FitsAt (line_at moved s) (pending_at qs s) (seen s later) (told_of r s) →
    IsTold h next lines ps r → IsTold later mark moved qs r
kept-only h later next mark lines moved ps qs r s only le others pendings here k =
    kept-at h later next mark lines moved ps qs r s only.adds.grows (λ t apart. seen-elsewhere s t only apart) le others pendings here k

-- a stream that is not used any more, by a call that says nothing of any
pub kept-gone : (h later : List NetEvent) (next mark : ℕ) (lines moved : Lines) (ps qs : Pendings) (r : Recorded) (s : ℕ) → IsPrefixOf h later →
    ((t : ℕ) → seen t later ≡ seen t h) → next ≤ mark → KeepsOthers s lines moved → line_at moved s ≡ None → KeepsPending s ps qs →
    IsTold h next lines ps r → IsTold later mark moved qs r
kept-gone h later next mark lines moved ps qs r s p views le others gone pendings k =
    kept-at h later next mark lines moved ps qs r s p (λ t _. views t) le others pendings
    (subst (λ l. FitsAt l (pending_at qs s) (seen s later) (told_of r s)) (sym gone)
    (at-gone (pending_at qs s) (seen s later) (told_of r s)
    (subst (λ v. IsStreamWired v (told_of r s)) (sym (views s)) (at-wired (line_at lines s) (pending_at ps s) (seen s h) (told_of r s) (k.streams s)))))
    k

-- ---- An entry that says nothing of a stream

pub told-silent : (used : Room) (lists : Lists) (moment : ℕ) (e : Entry) (f : Fact) (old new : Recorded) → Adds used lists moment e f old new →
    mention_of old.client old.point.state moment f ≡ told.Silent → (s : ℕ) → told_of new s ≡ told_of old s
told-silent used lists moment e f old new adds silent s =
    told-adds used lists moment e f old new adds s ∙ ap (with_mention s (told_of old s)) silent

kept-quiet : (h : List NetEvent) (next : ℕ) (lines : Lines) (ps : Pendings) (used : Room) (lists : Lists) (moment : ℕ) (e : Entry) (f : Fact) (old new : Recorded) →
    Adds used lists moment e f old new → ((s : ℕ) → with_mention s (told_of old s) (mention_of old.client old.point.state moment f) ≡ told_of old s) →
    no_dials_told (told_in old) + one_if (says_no_dial f) ≤ no_dials_in h → IfTime h f → IsTold h next lines ps old → IsTold h next lines ps new
kept-quiet h next lines ps used lists moment e f old new adds quiet dials time k =
    let same : (s : ℕ) → told_of new s ≡ told_of old s = λ s. told-adds used lists moment e f old new adds s ∙ quiet s in
    record {
      streams = λ s. subst (FitsAt (line_at lines s) (pending_at ps s) (seen s h)) (sym (same s)) (k.streams s);
      given = λ s above. same s ∙ k.given s above;
      dials = subst (λ n. n ≤ no_dials_in h) (sym (ap no_dials_told adds.told_now ∙ no_dials-with (told_in old) (record { at = moment; what = f }))) dials;
      times = subst (All (λ (t : Timed Fact). IfTime h t.what)) (sym adds.told_now) (times-with h (told_in old) (record { at = moment; what = f }) k.times time);
    }

pub kept-silent : (h : List NetEvent) (next : ℕ) (lines : Lines) (ps : Pendings) (used : Room) (lists : Lists) (moment : ℕ) (e : Entry) (f : Fact) (old new : Recorded) →
    Adds used lists moment e f old new → mention_of old.client old.point.state moment f ≡ told.Silent → no_dials_told (told_in old) + one_if (says_no_dial f) ≤ no_dials_in h →
    IfTime h f → IsTold h next lines ps old → IsTold h next lines ps new
kept-silent h next lines ps used lists moment e f old new adds silent dials time k =
    kept-quiet h next lines ps used lists moment e f old new adds (λ s. ap (with_mention s (told_of old s)) silent) dials time k

-- one that tells neither of a dial is told of no more dials
pub same-dials : (h : List NetEvent) (next : ℕ) (lines : Lines) (ps : Pendings) (r : Recorded) (f : Fact) → says_no_dial f ≡ false → IsTold h next lines ps r →
    no_dials_told (told_in r) + one_if (says_no_dial f) ≤ no_dials_in h
same-dials h next lines ps r f none k =
    let zero : one_if (says_no_dial f) ≡ one_if false = ap one_if none in
    omega (arith, zero, k.dials)

pub one-dial : (h : List NetEvent) (r : Recorded) (f : Fact) → says_no_dial f ≡ true → HasUntoldDial h r →
    no_dials_told (told_in r) + one_if (says_no_dial f) ≤ no_dials_in h
one-dial h r f one untold =
    let is : one_if (says_no_dial f) ≡ one_if true = ap one_if one in
    omega (arith, is, untold)

-- ---- An entry about a stream

pub kept-about : (h : List NetEvent) (next : ℕ) (lines moved : Lines) (ps qs : Pendings) (used : Room) (lists : Lists) (moment : ℕ) (e : Entry) (f : Fact) (old new : Recorded) (s : ℕ) →
    Adds used lists moment e f old new →
    ((t : ℕ) → t ≢ s → with_mention t (told_of old t) (mention_of old.client old.point.state moment f) ≡ told_of old t) → ((t : ℕ) → next ≤ t → t ≢ s) →
    KeepsOthers s lines moved → KeepsPending s ps qs →
    FitsAt (line_at moved s) (pending_at qs s) (seen s h) (with_mention s (told_of old s) (mention_of old.client old.point.state moment f)) →
    says_no_dial f ≡ false → IfTime h f → IsTold h next lines ps old → IsTold h next moved qs new
kept-about h next lines moved ps qs used lists moment e f old new s adds elsewhere apart others pendings here no_dial time k =
    let now = told-adds used lists moment e f old new adds in
    record {
      streams = λ t. elim (eqb_tells t s) [
        | inl q ↦
            subst (λ x. FitsAt (line_at moved x) (pending_at qs x) (seen x h) (told_of new x)) (sym q.1)
            (subst (FitsAt (line_at moved s) (pending_at qs s) (seen s h)) (sym (now s)) here)
        | inr q ↦ rw (others t q.1, pendings t q.1, now t, elsewhere t q.1) (k.streams t)
      ];
      given = λ t above. now t ∙ elsewhere t (apart t above) ∙ k.given t above;
      dials = subst (λ n. n ≤ no_dials_in h) (sym (ap no_dials_told adds.told_now ∙ no_dials-with (told_in old) (record { at = moment; what = f })))
          (same-dials h next lines ps old f no_dial k);
      times = subst (All (λ (t : Timed Fact). IfTime h t.what)) (sym adds.told_now) (times-with h (told_in old) (record { at = moment; what = f }) k.times time);
    }

tells-elsewhere : (s t : ℕ) (a : Account) (r : Result) → t ≢ s → with_mention t a (told.Tells (Some s) r) ≡ a
tells-elsewhere s t a r apart = ap (λ b. cond b (with_result a r) a) (ne_eqb s t (λ q. apart (sym q)))

tells-here : (s : ℕ) (a : Account) (r : Result) → with_mention s a (told.Tells (Some s) r) ≡ with_result a r
tells-here s a r = ap (λ b. cond b (with_result a r) a) (eq-eqb s s refl)

asks-elsewhere : (t : ℕ) (a : Account) (r : Request) → t ≢ r.stream → with_mention t a (told.Asks r) ≡ a
asks-elsewhere t a r apart = ap (λ b. cond b (record a { last = Some r; how = None }) a) (ne_eqb r.stream t (λ q. apart (sym q)))

asks-here : (a : Account) (r : Request) → with_mention r.stream a (told.Asks r) ≡ record a { last = Some r; how = None }
asks-here a r = ap (λ b. cond b (record a { last = Some r; how = None }) a) (eq-eqb r.stream r.stream refl)

heard-given : (h : List NetEvent) (next : ℕ) (lines : Lines) (ps : Pendings) (r : Recorded) (s : ℕ) (result : Result) → IsTold h next lines ps r → IsHeard h r s result →
    (t : ℕ) → next ≤ t → t ≢ s
heard-given h next lines ps r s result k is t above q =
    let none : told_of r s ≡ no_account = k.given s (subst (λ x. next ≤ x) q above) in
    let clash : None ≡ Some is.heard.request = sym (ap (λ (a : Account). a.last) none) ∙ is.heard.waits in
    cc

-- it tells what was heard there
pub kept-tells : (h : List NetEvent) (next : ℕ) (lines : Lines) (ps qs : Pendings) (used : Room) (lists : Lists) (moment : ℕ) (e : Entry) (f : Fact) (old new : Recorded) (s : ℕ) (result : Result) (b : Bool) →
    Adds used lists moment e f old new → mention_of old.client old.point.state moment f ≡ told.Tells (Some s) result → IsHeard h old s result → b ≡ is_answer result →
    pending_at qs s ≡ option_map (told_on b) (pending_at ps s) → KeepsPending s ps qs → says_no_dial f ≡ false → IfTime h f →
    IsTold h next lines ps old → IsTold h next lines qs new
kept-tells h next lines ps qs used lists moment e f old new s result b adds tells is kind marked pendings no_dial time k =
    kept-about h next lines lines ps qs used lists moment e f old new s adds
    (λ t apart. ap (with_mention t (told_of old t)) tells ∙ tells-elsewhere s t (told_of old t) result apart)
    (heard-given h next lines ps old s result k is) (λ t _. refl) pendings
    (rw (marked, kind, tells, tells-here s (told_of old s) result)
    (told-fits (line_at lines s) (pending_at ps s) result is.answer is.id (seen s h) (told_of old s) (k.streams s) is.heard is.said))
    no_dial time k

-- so too where no stream was dialled
pub kept-result : (h : List NetEvent) (next : ℕ) (lines : Lines) (ps qs : Pendings) (used : Room) (lists : Lists) (moment : ℕ) (e : Entry) (f : Fact) (old new : Recorded) (stream : Option ℕ) (result : Result) (b : Bool) →
    Adds used lists moment e f old new → mention_of old.client old.point.state moment f ≡ told.Tells stream result → WasHeard h old (told.Tells stream result) → b ≡ is_answer result →
    IfSome stream (λ s. pending_at qs s ≡ option_map (told_on b) (pending_at ps s)) → IfSome stream (λ s. KeepsPending s ps qs) → IfNone stream (qs ≡ ps) →
    says_no_dial f ≡ false → IfTime h f → IsTold h next lines ps old → IsTold h next lines qs new
kept-result h next lines ps qs used lists moment e f old new None result b adds tells heard kind marked pendings same no_dial time k =
    subst (λ (x : Pendings). IsTold h next lines x new) (sym same)
    (kept-quiet h next lines ps used lists moment e f old new adds (λ t. ap (with_mention t (told_of old t)) tells) (same-dials h next lines ps old f no_dial k) time k)
kept-result h next lines ps qs used lists moment e f old new (Some s) result b adds tells heard kind marked pendings same no_dial time k =
    kept-tells h next lines ps qs used lists moment e f old new s result b adds tells heard kind marked pendings no_dial time k

answers-by : (stream : Option ℕ) (r : Result) → answers_in (told.Tells stream r) ≡ is_answer r
answers-by stream (told.Answered says) = refl
answers-by stream (told.Ended how) = refl

-- an entry that tells what became of a request
pub kept-told : (h : List NetEvent) (next : ℕ) (lines : Lines) (ps qs : Pendings) (used : Room) (lists : Lists) (moment : ℕ) (e : Entry) (f : Fact) (old new : Recorded) (stream : Option ℕ) (b : Bool) →
    Adds used lists moment e f old new → SaysResult old.client old.point.state moment stream lines h f → TellsHeard h old moment f → b ≡ tells_reply f →
    IfSome stream (λ s. pending_at qs s ≡ option_map (told_on b) (pending_at ps s)) → IfSome stream (λ s. KeepsPending s ps qs) → IfNone stream (qs ≡ ps) →
    IsTold h next lines ps old → IsTold h next lines qs new
kept-told h next lines ps qs used lists moment e f old new stream b adds says heard kind marked pendings same k =
    let t = tells-of stream (mention_of old.client old.point.state moment f) says.of in
    kept-result h next lines ps qs used lists moment e f old new stream t.result b adds t.is (subst (WasHeard h old) t.is heard)
    (kind ∙ says.kind ∙ ap answers_in t.is ∙ answers-by stream t.result) marked pendings same says.no_dial says.time k

-- an event that is offered
pub kept-offered : (h : List NetEvent) (next : ℕ) (lines : Lines) (ps qs : Pendings) (used : Room) (lists : Lists) (moment place : ℕ) (e : Entry) (x : TopoEvent) (taken : OfferedHow) (old new : Recorded) (stream : Option ℕ) →
    Adds used lists moment e (fact.Offered place x taken) old new → OffersOf old.point.state stream x → WasHeard h old (of_offered old.point.state x) →
    IfSome (stream_offered x stream) (λ s. pending_at qs s ≡ option_map (told_on true) (pending_at ps s)) → IfSome (stream_offered x stream) (λ s. KeepsPending s ps qs) →
    IfNone (stream_offered x stream) (qs ≡ ps) → IsTold h next lines ps old → IsTold h next lines qs new
kept-offered h next lines ps qs used lists moment place e (topo.Reply d sample) taken old new stream adds of heard marked pendings same k =
    kept-result h next lines ps qs used lists moment e (fact.Offered place (topo.Reply d sample) taken) old new stream (told.Answered (told.Hello d)) true adds
    (ap (λ o. told.Tells o (told.Answered (told.Hello d))) of) (subst (λ o. WasHeard h old (told.Tells o (told.Answered (told.Hello d)))) of heard) refl marked pendings same refl tt k
kept-offered h next lines ps qs used lists moment place e (topo.Broken host g) taken old new stream adds of heard marked pendings same k =
    subst (λ (y : Pendings). IsTold h next lines y new) (sym same)
    (kept-silent h next lines ps used lists moment e (fact.Offered place (topo.Broken host g) taken) old new adds refl
    (same-dials h next lines ps old (fact.Offered place (topo.Broken host g) taken) refl k) tt k)
kept-offered h next lines ps qs used lists moment place e (topo.Refused host v g down) taken old new stream adds of heard marked pendings same k =
    subst (λ (y : Pendings). IsTold h next lines y new) (sym same)
    (kept-silent h next lines ps used lists moment e (fact.Offered place (topo.Refused host v g down) taken) old new adds refl
    (same-dials h next lines ps old (fact.Offered place (topo.Refused host v g down) taken) refl k) tt k)

-- it says that a request was asked
pub kept-asks : (h : List NetEvent) (next : ℕ) (lines moved : Lines) (ps qs : Pendings) (used : Room) (lists : Lists) (moment : ℕ) (e : Entry) (f : Fact) (old new : Recorded) (r : Request) →
    Adds used lists moment e f old new → mention_of old.client old.point.state moment f ≡ told.Asks r → IsIdle lines r.stream → r.stream < next →
    (told_of old r.stream).last ≡ None → line_at moved r.stream ≡ option_map (with_unsent r.bytes) (line_at lines r.stream) → KeepsOthers r.stream lines moved →
    pending_at qs r.stream ≡ option_map (queued_on r.id) (pending_at ps r.stream) → KeepsPending r.stream ps qs → says_no_dial f ≡ false → IfTime h f →
    IsTold h next lines ps old → IsTold h next moved qs new
kept-asks h next lines moved ps qs used lists moment e f old new r adds asks idle below none queued others marked pendings no_dial time k =
    let fits : FitsAt (Some idle.line) (pending_at ps r.stream) (seen r.stream h) (told_of old r.stream) =
    subst (λ l. FitsAt l (pending_at ps r.stream) (seen r.stream h) (told_of old r.stream)) idle.there (k.streams r.stream) in
    kept-about h next lines moved ps qs used lists moment e f old new r.stream adds
    (λ t apart. ap (with_mention t (told_of old t)) asks ∙ asks-elsewhere t (told_of old t) r apart)
    (λ t above q. absurd (omega (arith, below, above, q))) others pendings
    (rw (queued, idle.there, marked, asks, asks-here (told_of old r.stream) r)
    (asked-at idle.line (pending_at ps r.stream) (seen r.stream h) (told_of old r.stream) r none idle.sent fits))
    no_dial time k

-- ---- A stream that is dialled

pub dialled-fits : (stream : ℕ) (use_for : StreamUse) (v : Seen) (a : Account) → v ≡ unseen → a ≡ no_account →
    FitsAt (Some (record { wire = opened stream; is_for = use_for })) (Some is.Nothing) v a
dialled-fits stream use_for v a none nothing =
    rw (none, nothing) (record { answers = []; front = []; came = refl; said = tt; out = refl; cut = refl; going = refl; asks_on = front-nil }, refl)

-- ---- The beginning

pub kept-new : (h : List NetEvent) (next : ℕ) (r : Recorded) → h ≡ [] → r.steps ≡ [] → IsTold h next [] [] r
kept-new h next r none steps =
    let none_told : told_in r ≡ [] = ap (facts_of r.lists) steps in
    let nothing : (s : ℕ) → told_of r s ≡ no_account = λ s. ap (told.account r.client s) none_told ∙ told-nothing r.client s in
    record {
      streams = λ s. rw (none, nothing s, seen-nil s) (record { answers = []; rest = []; front = []; came = refl; said = tt; out = refl; cut = record { more = []; joined = refl }; explained = tt });
      given = λ s _. nothing s;
      dials = rw (none_told, none) (omega arith);
      times = rw none_told (λ n d q. absurd (omega (arith, q)));
    }

-- ---- A dial that gave no stream

no_dial-calls : (h : List NetEvent) → filter is_no_dial h ≡ filter is_no_dial (filter is_call h)
no_dial-calls [] = refl
no_dial-calls (event.NoDial a ∷ h) = ap (λ l. event.NoDial a ∷ l) (no_dial-calls h)
no_dial-calls (event.Handled m t n f ∷ h) = no_dial-calls h
no_dial-calls (event.Elected m ∷ h) = no_dial-calls h
no_dial-calls (event.Followed m ∷ h) = no_dial-calls h
no_dial-calls (event.Dialled t a ∷ h) = no_dial-calls h
no_dial-calls (event.Out t b ∷ h) = no_dial-calls h
no_dial-calls (event.Came t b ∷ h) = no_dial-calls h
no_dial-calls (event.Ended t ∷ h) = no_dial-calls h
no_dial-calls (event.Fault t ∷ h) = no_dial-calls h
no_dial-calls (event.Closed t ∷ h) = no_dial-calls h
no_dial-calls (event.Dry t ∷ h) = no_dial-calls h
no_dial-calls (event.Full t ∷ h) = no_dial-calls h

pub undialled : (a b : List NetEvent) (address : List ℕ) (r : Recorded) → AddsCalls (event.NoDial address ∷ []) a b → no_dials_told (told_in r) ≤ no_dials_in a → HasUntoldDial b r
undialled a b address r adds dials =
    let counts : no_dials_in b ≡ no_dials_in a + 1 =
    ap length (no_dial-calls b) ∙ ap (λ l. length (filter is_no_dial l)) adds.own ∙ ap length (filter-append is_no_dial (filter is_call a) (event.NoDial address ∷ []))
    ∙ length-append (filter is_no_dial (filter is_call a)) (event.NoDial address ∷ []) ∙ ap (λ l. length l + 1) (sym (no_dial-calls a)) in
    omega (arith, counts, dials)
