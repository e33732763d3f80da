use Rattle.std.proofs.Common.{◌+◌, ◌++◌, ◌∷◌, [], ◌∙◌, ◌≡◌, List, ap, arith, get_or, length, subst, sym, take}
use Rattle.std.proofs.lemmas.List.{take_all, take_more}
use Rattle.desk_trail.specs.declared.request.Request.{Request as TrailRequest}
use Rattle.desk_trail.specs.declared.step.Step.{Step as TrailStep}
use Rattle.desk_trail.specs.Written.{lists_of}
use Rattle.effect_count.specs.Inside.{HasRequests, asked_by, requests_by, with_asked}
use Rattle.effect_count.proofs.IndexLemmas.{index-of, requests-more}
use Rattle.effect_count.proofs.index.RequestIndex.of.Goals as goal

pub noting-preserved : goal.noting-preserved
noting-preserved c =
    let requests = c.as_slice-requests.result.now in
    let steps = c.args.trail.now.steps in
    let items = c.as_slice-step-items.ensures.value in
    let count = ap (λ (xs : List TrailStep). length xs) items in
    let front = take c.noting.step-index steps in
    let more : take (c.noting.step-index + 1) steps ≡ front ++ c.step-item.result ∷ [] =
    take_more steps c.noting.step-index c.step-item.result (omega (arith, count))
    ∙ ap (λ (s : TrailStep). front ++ s ∷ []) (ap (λ (xs : List TrailStep). get_or xs c.noting.step-index c.step-item.result) (sym items) ∙ sym c.step-item.is) in
    let now : HasRequests c.note.new.self (with_asked (requests_by requests front) (asked_by requests c.step-item.result.entry)) =
    c.in_ok-note.ensures (requests_by requests front) c.noting.invariant in
    subst (HasRequests c.note.new.self) (sym (ap (requests_by requests) more ∙ requests-more requests front c.step-item.result)) now

pub returns : goal.returns
returns c =
    let count = ap (λ (xs : List TrailStep). length xs) c.as_slice-step-items.ensures.value in
    let all = take_all c.noting.step-index c.args.trail.now.steps (omega (arith, count)) in
    let has : HasRequests c.noting.index (requests_by c.as_slice-requests.result.now c.args.trail.now.steps) =
    subst (λ (xs : List TrailStep). HasRequests c.noting.index (requests_by c.as_slice-requests.result.now xs)) all c.noting.invariant in
    index-of c.noting.index (lists_of c.args.trail.now) c.args.trail.now.steps
    (subst (λ (rs : List TrailRequest). HasRequests c.noting.index (requests_by rs c.args.trail.now.steps)) c.as_slice-requests.ensures.value has)
