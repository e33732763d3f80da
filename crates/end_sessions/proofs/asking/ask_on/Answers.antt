use Rattle.std.proofs.Common.{◌≡◌, ◌+◌, ℕ, List, [], ◌∷◌, ◌++◌, Some, length, refl, sym, ap, ◌∙◌, subst, arith}
use Rattle.std.specs.Prelude.{nat_eq, slice_get, slice_index_or}
use Rattle.std.specs.List.{list_any}
use Rattle.std.proofs.lemmas.Option.{slice_get-get_or}
use Rattle.desk_trail.specs.declared.room.Room.{Room}
use Rattle.desk_trail.specs.Requests.{id_at}
use Rattle.wired_trail.specs.Lines.{IsIdle}
use Rattle.end_sessions.specs.Carriers.{Carries}
use Rattle.end_sessions.specs.Farewells.{MayCarry}
use Rattle.end_sessions.proofs.CarrierLemmas.{Carries-none, Carries-one, IsThere-queued, StandsAt-next}
use Rattle.end_sessions.proofs.asking.ask_on.Goals as goal

pub returns-in_err-reserve-clause-carries : goal.returns-in_err-reserve-clause-carries
returns-in_err-reserve-clause-carries g c =
    subst (λ (x : List ℕ). Carries c.args.asking.moment c.args.asking.closings c.args.wired.now c.args.wired.now c.args.carriers.now.items x) (sym c.reserve.ensures.items)
    (Carries-none c.args.asking.moment c.args.asking.closings c.args.asking.lists.now c.args.wired.now c.args.wired.now c.args.carriers.now.items c.requires.ready refl c.requires.ready.room)

pub returns-in_err-made-clause-carries : goal.returns-in_err-made-clause-carries
returns-in_err-made-clause-carries g c =
    subst (λ (x : List ℕ). Carries c.args.asking.moment c.args.asking.closings c.args.wired.now c.args.wired.now c.args.carriers.now.items x) (sym c.reserve.ensures.items)
    (Carries-none c.args.asking.moment c.args.asking.closings c.args.asking.lists.now c.args.wired.now c.args.wired.now c.args.carriers.now.items c.requires.ready refl c.requires.ready.room)

pub returns-in_err-room_for-clause-carries : goal.returns-in_err-room_for-clause-carries
returns-in_err-room_for-clause-carries g c =
    subst (λ (x : List ℕ). Carries c.args.asking.moment c.args.asking.closings c.args.wired.now c.args.wired.now c.args.carriers.now.items x) (sym c.reserve.ensures.items)
    (Carries-none c.args.asking.moment c.args.asking.closings c.args.asking.lists.now c.args.wired.now c.args.wired.now c.args.carriers.now.items c.requires.ready refl c.requires.ready.room)

pub returns-in_err-reserve-2-clause-carries : goal.returns-in_err-reserve-2-clause-carries
returns-in_err-reserve-2-clause-carries g c =
    let kept = c.reserve-2.ensures.kept.steps in
    let room = c.requires.ready.room in
    subst (λ (x : List ℕ). Carries c.args.asking.moment c.args.asking.closings c.args.wired.now c.reserve-2.new.self c.args.carriers.now.items x) (sym c.reserve.ensures.items)
    (Carries-none c.args.asking.moment c.args.asking.closings c.args.asking.lists.now c.args.wired.now c.reserve-2.new.self c.args.carriers.now.items c.requires.ready
    c.reserve-2.ensures.same (omega (arith, kept, room)))

pub ask-requires-clause-stands : goal.ask-requires-clause-stands
ask-requires-clause-stands g c =
    let made = c.in_ok-made.ensures in
    let asked = c.len.ensures in
    let held = c.reserve.new.self.ok in
    let same = ap length c.reserve.ensures.items in
    let count : c.len.result ≡ length c.args.carriers.now.items = omega (arith, asked, held, same) in
    let left = c.requires.left in
    let ids = slice_index_or c.args.asking.lists.now c.len.result c.index-asking-len.result in
    let next : slice_get c.args.asking.lists.now c.len.result ≡ Some ids =
    slice_get-get_or c.args.asking.lists.now c.len.result c.index-asking-len.result (omega (arith, count, left)) in
    StandsAt-next c.args.asking.moment c.args.asking.closings c.args.asking.lists.now c.args.carriers.now.items c.args.wired.now c.reserve-2.new.self c.in_ok-made.made.request
    ids c.reserve-2.ensures.same c.requires.ready
    (subst (λ x. MayCarry c.args.wired.now.trail.point.state c.args.wired.now.lines c.args.asking.moment x) (sym made.stream) c.requires.may)
    (ap (λ x. list_any (nat_eq x) c.args.carriers.now.items) made.stream ∙ c.requires.unused)
    (subst (λ n. slice_get c.args.asking.lists.now n ≡ Some ids) count next)
    made.purpose (made.id ∙ ap (λ rs. id_at (length rs)) c.requests-place.ensures.value) made.message

pub push-requires : goal.push-requires
push-requires g c = record {
  there = IsThere-queued c.reserve-2.new.self.lines c.ask.new.self.lines c.args.stream c.in_ok-made.made.request.stream c.in_ok-made.made.request.bytes c.in_ok-made.ensures.stream
      (subst (λ l. IsIdle l c.args.stream) (sym (ap (λ s. s.lines) c.reserve-2.ensures.same)) c.requires.may.is_free.idle)
      c.ask.ensures.queued;
}

pub returns-clause-carries : goal.returns-clause-carries
returns-clause-carries g c =
    let least = c.in_ok-reserve-2.ensures.room.steps in
    let is = ap (λ (r : Room). r.steps) c.in_ok-room_for.ensures in
    subst (λ (x : List ℕ). Carries c.args.asking.moment c.args.asking.closings c.args.wired.now c.push.new.self c.args.carriers.now.items x)
    (sym (c.push_reserved.ensures.items ∙ ap (λ xs. xs ++ c.args.stream ∷ []) c.reserve.ensures.items))
    (Carries-one c.args.asking.moment c.args.asking.closings (length c.reserve-2.new.self.trail.lists.requests) c.args.stream c.args.asking.lists.now c.args.carriers.now.items
    c.args.wired.now c.reserve-2.new.self c.ask.new.self c.push.new.self c.in_ok-made.made.request c.requires.ready c.reserve-2.ensures.same (omega (arith, least, is))
    c.ask.ensures.adds c.ask.ensures.others c.push.ensures.trail c.push.ensures.others c.in_ok-made.ensures.stream c.in_ok-made.ensures.purpose)

pub returns-in_err-check_free-clause-carries : goal.returns-in_err-check_free-clause-carries
returns-in_err-check_free-clause-carries g c =
    let kept = c.reserve-2.ensures.kept.steps in
    let room = c.requires.ready.room in
    subst (λ (x : List ℕ). Carries c.args.asking.moment c.args.asking.closings c.args.wired.now c.reserve-2.new.self c.args.carriers.now.items x) (sym c.reserve.ensures.items)
    (Carries-none c.args.asking.moment c.args.asking.closings c.args.asking.lists.now c.args.wired.now c.reserve-2.new.self c.args.carriers.now.items c.requires.ready
    c.reserve-2.ensures.same (omega (arith, kept, room)))
