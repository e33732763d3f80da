use Rattle.std.proofs.Common.{◌≡◌, ◌<◌, ◌≤◌, ◌+◌, ℕ, List, Some, length, refl, sym, ap, ◌∙◌, subst, arith, inl, inr}
use Rattle.std.specs.Prelude.{slice_get, slice_index_or}
use Rattle.std.proofs.lemmas.Bool.{cases_lt}
use Rattle.std.proofs.lemmas.Option.{slice_get-get_or, slice_get_within}
use Rattle.pool_book.specs.declared.connections.Available.{Available}
use Rattle.end_sessions.specs.Farewells.{IsFreeOn}
use Rattle.end_sessions.proofs.CarrierLemmas.{Carries-none, Carries-trans, IsAsked-behind, IsAsked-next, IsToAsk-behind, IsToAskAt-behind}
use Rattle.end_sessions.proofs.asking.ask_each.Goals as goal

pub asking-init : goal.asking-init
asking-init g c = (
  omega arith,
  c.requires.few,
  c.requires.ready,
  c.requires.at,
  Carries-none c.args.asking.moment c.args.asking.closings c.args.asking.lists.now c.args.wired.now c.args.wired.now c.args.carriers.now.items c.requires.ready refl c.requires.ready.room,
  omega arith,
  λ k stream free below. absurd (omega (arith, below)),
)

pub ask_of-requires-clause-free : goal.ask_of-requires-clause-free
ask_of-requires-clause-free g c =
    let xs = c.available-available.result.now in (
      c.asking.place,
      subst (λ (l : List Available). slice_get l c.asking.place ≡ Some (slice_index_or xs c.asking.place (record { conn = 0; generation = 0; since = 0 })))
          c.available-available.ensures.available
          (slice_get-get_or xs c.asking.place (record { conn = 0; generation = 0; since = 0 }) c.asking-test.true),
    )

pub returns-in_err-ask_of-clause-carries : goal.returns-in_err-ask_of-clause-carries
returns-in_err-ask_of-clause-carries g c =
    Carries-trans c.args.asking.moment c.args.asking.closings c.args.wired.now c.asking.wired c.ask_of.new.wired c.args.carriers.now.items c.asking.carriers.items c.ask_of.new.carriers.items
    c.asking.invariant.4 c.ask_of.ensures.carries

pub asking-preserved : goal.asking-preserved
asking-preserved g c =
    let i = c.asking.invariant in
    let xs = c.available-available.result.now in
    let test = c.asking-test.true in
    let last : slice_get c.args.server.now.pool.state.available c.asking.place ≡ Some (slice_index_or xs c.asking.place (record { conn = 0; generation = 0; since = 0 })) =
    subst (λ (l : List Available). slice_get l c.asking.place ≡ Some (slice_index_or xs c.asking.place (record { conn = 0; generation = 0; since = 0 })))
    c.available-available.ensures.available
    (slice_get-get_or xs c.asking.place (record { conn = 0; generation = 0; since = 0 }) c.asking-test.true) in
    let before = i.5 in
    let later = c.ask_of.ensures.faults in (
      omega (arith, test),
      c.ask_of.ensures.few,
      IsToAsk-behind c.args.asking.moment c.args.asking.closings c.asking.wired c.ask_of.new.wired c.args.asking.lists.now c.asking.carriers.items c.ask_of.new.carriers.items i.2
          c.ask_of.ensures.carries,
      IsToAskAt-behind c.args.asking.moment c.args.asking.closings c.asking.wired c.ask_of.new.wired c.args.server.now c.asking.carriers.items c.ask_of.new.carriers.items i.3
          c.ask_of.ensures.carries,
      Carries-trans c.args.asking.moment c.args.asking.closings c.args.wired.now c.asking.wired c.ask_of.new.wired c.args.carriers.now.items c.asking.carriers.items
          c.ask_of.new.carriers.items i.4 c.ask_of.ensures.carries,
      omega (arith, before, later),
      λ k stream free below there is. elim (cases_lt k c.asking.place) [
        | inl ahead ↦
            IsAsked-behind c.args.asking.lists.now c.asking.carriers.items c.ask_of.new.carriers.items c.ask_of.ensures.carries.more stream c.ask_of.ensures.carries.grows
            c.ask_of.ensures.few (i.6 k stream free ahead there is)
        | inr at ↦
            let same : k ≡ c.asking.place = omega (arith, below, at) in
            let one : free ≡ slice_index_or xs c.asking.place (record { conn = 0; generation = 0; since = 0 }) =
            let both = sym (subst (λ n. slice_get c.args.server.now.pool.state.available n ≡ Some free) same there) ∙ last in cc in
            IsAsked-next c.args.asking.moment c.args.asking.closings c.args.asking.lists.now c.args.server.now free c.args.wired.now c.asking.wired c.ask_of.new.wired
            c.args.carriers.now.items c.asking.carriers.items c.ask_of.new.carriers.items stream i.4 c.ask_of.ensures.carries is
            (λ free_on. c.in_ok-ask_of.ensures.asked stream (subst (λ f. IsFreeOn c.args.server.now f c.asking.wired.lines c.args.asking.moment stream) one free_on))
      ],
    )

pub returns-clause-asked : goal.returns-clause-asked
returns-clause-asked g c = λ k stream free there is.
    let within = slice_get_within c.args.server.now.pool.state.available k free there in
    let end = c.asking-test.false in
    let count = ap length c.available-available.ensures.available in
    c.asking.invariant.6 k stream free (omega (arith, within, end, count)) there is
