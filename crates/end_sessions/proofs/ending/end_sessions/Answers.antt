use Rattle.std.proofs.Common.{◌≡◌, true, ◌<◌, ◌≤◌, ◌+◌, ℕ, List, [], Some, length, refl, sym, ap, ◌∙◌, subst, arith, inl, inr}
use Rattle.std.specs.Prelude.{nat_eq, not, slice_get, slice_index_or}
use Rattle.std.specs.List.{list_any}
use Rattle.std.proofs.lemmas.Bool.{cases_lt}
use Rattle.std.proofs.lemmas.Option.{slice_get-get_or, slice_get_within}
use Rattle.topo_rules.specs.Readings.{session_minutes_of}
use Rattle.sess_book.specs.Ending.{IsParted, kept_ids}
use Rattle.desk_trail.specs.States.{ServerState}
use Rattle.end_sessions.specs.Carriers.{IsToAskAt}
use Rattle.end_sessions.specs.Farewells.{IsFreeOn}
use Rattle.end_sessions.proofs.CarrierLemmas.{Carries-none, Carries-trans, IsAsked-behind, IsAsked-next, IsToAsk-behind, IsToAskAt-behind, IsToAsk-first, there-is}
use Rattle.end_sessions.proofs.FarewellLemmas.{AsksFarewells-same}
use Rattle.end_sessions.proofs.ending.end_sessions.Goals as goal

pub returns-then-is_none-clause-asks : goal.returns-then-is_none-clause-asks
returns-then-is_none-clause-asks g c =
    AsksFarewells-same c.args.ending.moment c.args.wired.now.trail c.args.wired.now.trail refl refl refl refl c.requires.counted c.requires.paid c.requires.time

pub returns-in_err-lists-clause-asks : goal.returns-in_err-lists-clause-asks
returns-in_err-lists-clause-asks g c =
    AsksFarewells-same c.args.ending.moment c.args.wired.now.trail c.args.wired.now.trail refl refl refl refl c.requires.counted c.requires.paid c.requires.time

pub returns-in_err-hosts-clause-asks : goal.returns-in_err-hosts-clause-asks
returns-in_err-hosts-clause-asks g c =
    AsksFarewells-same c.args.ending.moment c.args.wired.now.trail c.args.wired.now.trail refl refl refl refl c.requires.counted c.requires.paid c.requires.time

pub ending-init : goal.ending-init
ending-init g c =
    let none = c.new-carriers.ensures.items in
    let some = there-is c.session_minutes.result (c.is_none.ensures ∙ ap not c.if-is_none.false) in
    let ready = IsToAsk-first c.args.wired.now.trail c.args.ending.closings c.args.ending.moment c.as_slice-2.result.now c.new-carriers.result.items some.0
    c.requires.paid c.requires.time c.requires.counted (c.requires.none ∙ sym none)
    (subst (λ l. IsParted l (kept_ids c.args.wired.now.trail.point.state.sessions)) (sym c.as_slice-2.ensures.value)
    (subst (λ s. IsParted c.in_ok-lists.lists (kept_ids s)) (sym c.requires.sessions) c.in_ok-lists.ensures))
    (ap (λ t. session_minutes_of t.servers) c.requires.topology ∙ sym c.session_minutes.ensures ∙ some.1) c.requires.room in
    let count = ap length none in (
      omega arith,
      omega (arith, count),
      ready,
      Carries-none c.args.ending.moment c.args.ending.closings c.as_slice-2.result.now c.args.wired.now c.args.wired.now c.new-carriers.result.items ready refl c.requires.room,
      omega arith,
      λ x k stream s free below. absurd (omega (arith, below)),
    )

pub ask_at-requires-clause-there : goal.ask_at-requires-clause-there
ask_at-requires-clause-there g c = (
  c.ending.place,
  ap (λ w. slice_get w.servers c.ending.place) c.ending.invariant.3.asks.state ∙ ap (λ l. slice_get l c.ending.place) c.requires.servers
      ∙ slice_get-get_or c.args.ending.servers.now c.ending.place c.index-ending-place.result c.ending-test.true,
)

pub returns-in_err-ask_at-clause-asks : goal.returns-in_err-ask_at-clause-asks
returns-in_err-ask_at-clause-asks g c =
    (Carries-trans c.args.ending.moment c.args.ending.closings c.args.wired.now c.ending.wired c.ask_at.new.wired c.new-carriers.result.items c.ending.carriers.items
    c.ask_at.new.carriers.items c.ending.invariant.3 c.ask_at.ensures.carries).asks

pub ending-preserved : goal.ending-preserved
ending-preserved g c =
    let i = c.ending.invariant in
    let test = c.ending-test.true in
    let before = i.4 in
    let later = c.ask_at.ensures.faults in
    let this = slice_index_or c.args.ending.servers.now c.ending.place c.index-ending-place.result in
    let last : slice_get c.args.ending.servers.now c.ending.place ≡ Some this =
    slice_get-get_or c.args.ending.servers.now c.ending.place c.index-ending-place.result c.ending-test.true in (
      omega (arith, test),
      c.ask_at.ensures.few,
      IsToAsk-behind c.args.ending.moment c.args.ending.closings c.ending.wired c.ask_at.new.wired c.as_slice-2.result.now c.ending.carriers.items c.ask_at.new.carriers.items i.2
          c.ask_at.ensures.carries,
      Carries-trans c.args.ending.moment c.args.ending.closings c.args.wired.now c.ending.wired c.ask_at.new.wired c.new-carriers.result.items c.ending.carriers.items
          c.ask_at.new.carriers.items i.3 c.ask_at.ensures.carries,
      omega (arith, before, later),
      λ x k stream s free below there at available is. elim (cases_lt x c.ending.place) [
        | inl ahead ↦
            IsAsked-behind c.as_slice-2.result.now c.ending.carriers.items c.ask_at.new.carriers.items c.ask_at.ensures.carries.more stream c.ask_at.ensures.carries.grows
            c.ask_at.ensures.few (i.5 x k stream s free ahead there at available is)
        | inr behind ↦
            let same : x ≡ c.ending.place = omega (arith, below, behind) in
            let one : s ≡ this = let both = sym (subst (λ n. slice_get c.args.ending.servers.now n ≡ Some s) same there) ∙ last in cc in
            IsAsked-next c.args.ending.moment c.args.ending.closings c.as_slice-2.result.now s free c.args.wired.now c.ending.wired c.ask_at.new.wired
            c.new-carriers.result.items c.ending.carriers.items c.ask_at.new.carriers.items stream i.3 c.ask_at.ensures.carries is
            (λ free_on. c.in_ok-ask_at.ensures.asked k stream free
            (subst (λ (y : ServerState). IsToAskAt c.ending.wired.trail.point.state y) one
            (IsToAskAt-behind c.args.ending.moment c.args.ending.closings c.args.wired.now c.ending.wired s c.new-carriers.result.items c.ending.carriers.items at i.3))
            (subst (λ (y : ServerState). slice_get y.pool.state.available k ≡ Some free) one available)
            (subst (λ (y : ServerState). IsFreeOn y free c.ending.wired.lines c.args.ending.moment stream) one free_on))
      ],
    )

pub returns-clause-ends : goal.returns-clause-ends
returns-clause-ends g c = λ minutes kept.
    let i = c.ending.invariant in
    let known = i.3.known in
    let end = c.ending-test.false in record {
      lists = c.as_slice-2.result.now;
      parted = subst (λ l. IsParted l (kept_ids c.args.wired.now.trail.point.state.sessions)) (sym c.as_slice-2.ensures.value)
          (subst (λ s. IsParted c.in_ok-lists.lists (kept_ids s)) (sym c.requires.sessions) c.in_ok-lists.ensures);
      few = subst (λ (xs : List ℕ). length xs ≤ length c.as_slice-2.result.now) (sym known) i.1;
      all = λ left stream may.
          let there = ap (λ l. slice_get l may.host) (sym c.requires.servers) ∙ may.at in
          let within = slice_get_within c.args.ending.servers.now may.host may.server there in
          subst (λ (xs : List ℕ). list_any (nat_eq stream) xs ≡ true) (sym known)
          (i.5 may.host may.place stream may.server may.free (omega (arith, within, end)) there
          (record { host = may.host; at = may.at; stays = may.stays; readable = may.readable }) may.available may.is_free (λ full. left (ap length known ∙ full)));
    }
