-- What calls keep of the lines, and of the streams that the trail dialled.
use Rattle.std.proofs.Common.{◌≡◌, ◌≢◌, ◌<◌, ◌≤◌, ◌||◌, ℕ, false, List, [], ◌∷◌, Option, None, Some, refl, sym, ap, ◌∙◌, subst, arith, inl, inr, nat_eq}
use Rattle.std.specs.Prelude.{All, IfSome}
use Rattle.std.specs.List.{list_any}
use Rattle.std.specs.Option.{option_map}
use Rattle.std.proofs.lemmas.Bool.Decides.{eqb_tells}
use Rattle.std.proofs.lemmas.List.Elements.{All-append, All-cons, All-tail}
use Rattle.net_link.specs.Streams.{KeepsOpenBut}
use Rattle.desk_wire.specs.declared.answers.Pulled.{Pulled}
use Rattle.desk_wire.specs.declared.answers.Pushed.{Pushed}
use Rattle.desk_wire.specs.Pull.{pull_shuts}
use Rattle.desk_wire.specs.Push.{push_shuts}
use Rattle.desk_wire.specs.State.{opened}
use Rattle.desk_trail.specs.declared.entry.Entry.{Entry}
use Rattle.desk_trail.specs.declared.request.Request.{Request}
use Rattle.desk_trail.specs.declared.room.Room.{Room}
use Rattle.desk_trail.specs.Checks.{IsNew, kept_at}
use Rattle.desk_trail.specs.Facts.{Fact, Lists}
use Rattle.desk_trail.specs.Facts as fact
use Rattle.desk_trail.specs.Clients.{Client}
use Rattle.desk_trail.specs.Legal.{Point, beginning}
use Rattle.desk_trail.specs.States.{ClientState}
use Rattle.legal_trail.specs.Recorded.{Adds, Recorded}
use Rattle.wired_trail.specs.Lines.{Begins, IsThere, KeepsOthers, Lines, line_at, with_unsent}
use Rattle.wired_trail.specs.Standing.{IsLine, HasLines, UsesGiven}
use Rattle.wired_trail.specs.declared.lines.Line.{Line}
use Rattle.wired_trail.specs.declared.stream_use.StreamUse.{StreamUse}
use Rattle.wired_trail.proofs.StreamLemmas.{client-adds, new_streams, taken}

-- ---- Streams of the trail

All-up : (a b : ℕ) → a ≤ b → (ss : List ℕ) → All (λ s. s < a) ss → All (λ s. s < b) ss
All-up a b le ss h = λ k d q. omega (arith, le, h k d q)

All-none : (a : ℕ) → All (λ s. s < a) []
All-none a = λ k d q. absurd (omega (arith, q))

All-first : (a s : ℕ) (ss : List ℕ) → All (λ t. t < a) (s ∷ ss) → s < a
All-first a s ss h = h 0 0 (omega arith)

none-below : (stream : ℕ) (ss : List ℕ) → All (λ s. s < stream) ss → list_any (nat_eq stream) ss ≡ false
none-below stream [] h = refl
none-below stream (s ∷ ss) h = elim (eqb_tells stream s) [
  | inl w ↦ absurd (let below = All-first stream s ss h in omega (arith, w.1, below))
  | inr w ↦ ap (λ b. b || list_any (nat_eq stream) ss) w.0 ∙ none-below stream ss (All-tail (λ t. t < stream) s ss h)
]

pub fresh : (next stream : ℕ) (w : ClientState) → All (λ s. s < next) w.streams → next ≤ stream → IsNew w stream
fresh next stream w h le = none-below stream w.streams (All-up next stream le w.streams h)

given-taken : (next : ℕ) (kept : Option ℕ) (stream : ℕ) → stream < next → All (λ s. s < next) (taken kept stream)
given-taken next (Some k) stream h = All-none next
given-taken next None stream h = All-cons (λ s. s < next) stream [] h (All-none next)

given-new : (live : ℕ → Type 0) (next : ℕ) (lines : Lines) (w : ClientState) (f : Fact) → ((s : ℕ) → IsThere lines s → s < next) → UsesGiven lines f →
    All (λ s. s < next) (new_streams w f)
given-new live next lines w (fact.CheckBegan host stream) below uses = given-taken next (kept_at w host) stream (below stream uses)
given-new live next lines w (fact.Dialled op host conn (Some stream)) below uses = All-cons (λ s. s < next) stream [] (below stream uses) (All-none next)
given-new live next lines w (fact.Dialled op host conn None) below uses = All-none next
given-new live next lines w f below uses = All-none next

-- an entry that may use the streams that it names keeps all
pub HasLines-adds : (live : ℕ → Type 0) (next : ℕ) (lines : Lines) (used : Room) (lists : Lists) (moment : ℕ) (e : Entry) (f : Fact) (old new : Recorded) →
    ((s : ℕ) → live s → s < next) → Adds used lists moment e f old new → UsesGiven lines f → HasLines live next lines old.point.state.streams →
    HasLines live next lines new.point.state.streams
HasLines-adds live next lines used lists moment e f old new below adds uses w = record {
  each = w.each;
  given =
      subst (All (λ s. s < next))
      (sym (ap (λ p. p.state.streams) adds.point_now ∙ client-adds old.client moment old.point.state f))
      (All-append (λ s. s < next) (new_streams old.point.state f) old.point.state.streams
      (given-new live next lines old.point.state f (λ s there. below s (w.each s there.line there.there).is_open) uses) w.given);
}

-- ---- Lines

-- a line behind a turn of its wire
abbrev pub IsSameBut : Pulled → Line → Line → Type 0
IsSameBut answer l n = n ≡ record l { wire = record l.wire { unsent = n.wire.unsent; held = n.wire.held; is_shut = pull_shuts answer } }

pub HasLines-moved : (old live : ℕ → Type 0) (before next : ℕ) (stream : ℕ) (lines moved : Lines) (streams : List ℕ) → HasLines old before lines streams → before ≤ next →
    KeepsOthers stream lines moved → ((s : ℕ) → s ≢ stream → old s → live s) → ((l : Line) → line_at moved stream ≡ Some l → IsLine live stream l) →
    HasLines live next moved streams
HasLines-moved old live before next stream lines moved streams w le others opens here = record {
  each = λ s l there. elim (eqb_tells s stream) [
    | inl q ↦ subst (λ x. IsLine live x l) (sym q.1) (here l (subst (λ x. line_at moved x ≡ Some l) q.1 there))
    | inr q ↦
        let was = w.each s l (sym (others s q.1) ∙ there) in
        record { is_open = opens s q.1 was.is_open; own = was.own; going = was.going }
  ];
  given = All-up before next le streams w.given;
}

-- the line behind a turn behind which its stream is used on
pub HasLines-turned : (old live : ℕ → Type 0) (before next : ℕ) (stream : ℕ) (answer : Pulled) (lines moved : Lines) (streams : List ℕ) → HasLines old before lines streams → before ≤ next →
    KeepsOthers stream lines moved → ((s : ℕ) → old s → live s) → IsThere lines stream →
    IfSome (line_at lines stream) (λ l. IfSome (line_at moved stream) (λ n. IsSameBut answer l n)) →
    pull_shuts answer ≡ false → HasLines live next moved streams
HasLines-turned old live before next stream answer lines moved streams w le others opens there same goes =
    HasLines-moved old live before next stream lines moved streams w le others (λ s _ o. opens s o)
    (λ l now.
    let was = w.each stream there.line there.there in
    let is : IsSameBut answer there.line l = rw (there.there, now) at same in
    record {
      is_open = opens stream was.is_open;
      own = ap (λ x. x.wire.stream) is ∙ was.own;
      going = ap (λ x. x.wire.is_shut) is ∙ goes;
    })

-- a line behind a push of its wire
abbrev pub IsSentBy : Pushed → Line → Line → Type 0
IsSentBy answer l n = n ≡ record l { wire = record l.wire { unsent = n.wire.unsent; is_shut = push_shuts answer } }

-- the line behind a push behind which its stream is used on
pub HasLines-pushed : (old live : ℕ → Type 0) (before next : ℕ) (stream : ℕ) (answer : Pushed) (lines moved : Lines) (streams : List ℕ) → HasLines old before lines streams → before ≤ next →
    KeepsOthers stream lines moved → ((s : ℕ) → old s → live s) → IsThere lines stream →
    IfSome (line_at lines stream) (λ l. IfSome (line_at moved stream) (λ n. IsSentBy answer l n)) →
    push_shuts answer ≡ false → HasLines live next moved streams
HasLines-pushed old live before next stream answer lines moved streams w le others opens there same goes =
    HasLines-moved old live before next stream lines moved streams w le others (λ s _ o. opens s o)
    (λ l now.
    let was = w.each stream there.line there.there in
    let is : IsSentBy answer there.line l = rw (there.there, now) at same in
    record {
      is_open = opens stream was.is_open;
      own = ap (λ x. x.wire.stream) is ∙ was.own;
      going = ap (λ x. x.wire.is_shut) is ∙ goes;
    })

-- ---- Closing all

pub opens-taken : (old live : ℕ → Type 0) (stream : ℕ) (lines left : Lines) → ((s : ℕ) → IsThere lines s → old s) → line_at left stream ≡ None →
    KeepsOthers stream lines left → KeepsOpenBut stream old live → (s : ℕ) → IsThere left s → live s
opens-taken old live stream lines left h gone others opens s there =
    let apart : s ≢ stream = λ e. let clash : line_at left stream ≡ Some there.line = subst (λ x. line_at left x ≡ Some there.line) e there.there in cc in
    opens s apart (h s (record { line = there.line; there = sym (others s apart) ∙ there.there }))

-- ---- A request that is queued

asked-line : (live : ℕ → Type 0) (stream : ℕ) (bytes : List ℕ) (o p : Option Line) → p ≡ option_map (with_unsent bytes) o → ((l : Line) → o ≡ Some l → IsLine live stream l) →
    (n : Line) → p ≡ Some n → IsLine live stream n
asked-line live stream bytes None p queued each n there = let clash : None ≡ Some n = sym queued ∙ there in cc
asked-line live stream bytes (Some l) p queued each n there =
    let is : with_unsent bytes l ≡ n = (let both : Some (with_unsent bytes l) ≡ Some n = sym queued ∙ there in cc) in
    let was = each l refl in
    subst (IsLine live stream) is (record { is_open = was.is_open; own = was.own; going = was.going })

pub HasLines-asked : (live : ℕ → Type 0) (next : ℕ) (lines moved : Lines) (used : Room) (lists : Lists) (moment place : ℕ) (e : Entry) (r : Request) (old new : Recorded) →
    ((s : ℕ) → live s → s < next) → Adds used lists moment e (fact.Asked place r) old new → line_at moved r.stream ≡ option_map (with_unsent r.bytes) (line_at lines r.stream) →
    KeepsOthers r.stream lines moved → HasLines live next lines old.point.state.streams → HasLines live next moved new.point.state.streams
HasLines-asked live next lines moved used lists moment place e r old new below adds queued others w = record {
  each = λ s l there. elim (eqb_tells s r.stream) [
    | inl q ↦
        subst (λ x. IsLine live x l) (sym q.1)
        (asked-line live r.stream r.bytes (line_at lines r.stream) (line_at moved r.stream) queued (w.each r.stream) l (subst (λ x. line_at moved x ≡ Some l) q.1 there))
    | inr q ↦ w.each s l (sym (others s q.1) ∙ there)
  ];
  given = (HasLines-adds live next lines used lists moment e (fact.Asked place r) old new below adds tt w).given;
}

-- ---- Calls of the net

pub HasLines-gone : (old live : ℕ → Type 0) (before next : ℕ) (stream : ℕ) (lines moved : Lines) (streams : List ℕ) → HasLines old before lines streams → before ≤ next →
    KeepsOthers stream lines moved → line_at moved stream ≡ None → KeepsOpenBut stream old live → HasLines live next moved streams
HasLines-gone old live before next stream lines moved streams w le others gone opens =
    HasLines-moved old live before next stream lines moved streams w le others opens (λ l there. let clash : None ≡ Some l = sym gone ∙ there in cc)

pub HasLines-still : (old live : ℕ → Type 0) (before next : ℕ) (lines : Lines) (streams : List ℕ) → HasLines old before lines streams → before ≤ next → ((s : ℕ) → old s → live s) →
    HasLines live next lines streams
HasLines-still old live before next lines streams w le opens = record {
  each = λ s l there. (let was = w.each s l there in record { is_open = opens s was.is_open; own = was.own; going = was.going });
  given = All-up before next le streams w.given;
}

pub HasLines-begun : (old live : ℕ → Type 0) (before next : ℕ) (stream : ℕ) (use_for : StreamUse) (lines moved : Lines) (streams : List ℕ) → HasLines old before lines streams →
    before ≤ next → ((s : ℕ) → old s → live s) → live stream → Begins use_for lines moved stream → HasLines live next moved streams
HasLines-begun old live before next stream use_for lines moved streams w le opens here b =
    HasLines-moved old live before next stream lines moved streams w le b.others (λ s _ o. opens s o)
    (λ l there.
    let both : Some (record { wire = opened stream; is_for = use_for }) ≡ Some l = sym b.now ∙ there in
    let is : record { wire = opened stream; is_for = use_for } ≡ l = cc in
    subst (IsLine live stream) is (record { is_open = here; own = refl; going = refl }))

-- a number that was not given has no line
pub unused-line : (live : ℕ → Type 0) (next stream : ℕ) (lines : Lines) (streams : List ℕ) → HasLines live next lines streams → ((s : ℕ) → live s → s < next) → next ≤ stream →
    line_at lines stream ≡ None
unused-line live next stream lines streams w below above =
    elim (line_at lines stream) as (λ o. line_at lines stream ≡ o → o ≡ None) [
      | None ↦ λ _. refl
      | Some l ↦ λ there. absurd (let less = below stream (w.each stream l there).is_open in omega (arith, less, above))
    ] refl

pub HasLines-new : (live : ℕ → Type 0) (next : ℕ) (client : Client) (p : Point) → p ≡ beginning client → HasLines live next [] p.state.streams
HasLines-new live next client p is =
    rw is (record { each = λ s l there. (let clash : None ≡ Some l = there in cc); given = All-none next })
