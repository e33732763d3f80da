use Rattle.std.proofs.Common.{◌≡◌, ◌++◌, ◌∷◌, [], None, Option, Some, ap, slice_get, sym, ◌∙◌, ℕ}
use Rattle.std.proofs.lemmas.Option.{slice_get-get_or, slice_get_past}
use Rattle.desk_trail.specs.declared.request.Request.{Request as TrailRequest}
use Rattle.effect_count.specs.Inside.{asked_by}
use Rattle.effect_count.specs.Counts.{row_of}
use Rattle.effect_count.proofs.IndexLemmas.{both-ok, has-more, has-same}
use Rattle.effect_count.proofs.index.RequestIndex.note.Goals as goal

pub returns-in-Some : goal.returns-in-Some
returns-in-Some c =
    let asked = c.in-Some.asked.now in
    let found : slice_get c.args.requests.now c.in-Asked.request ≡ Some asked =
    slice_get-get_or c.args.requests.now c.in-Asked.request asked c.in-Some.ensures.lookup.3.0 ∙ ap (λ (r : TrailRequest). Some r) (sym c.in-Some.ensures.lookup.1) in
    let is : asked_by c.args.requests.now c.args.step.now.entry ≡ Some asked = ap (asked_by c.args.requests.now) c.in-Asked.is ∙ found in
    both-ok c.add.result
    (λ own others before h.
    has-more c.args.self.now c.add.new.self before asked (asked_by c.args.requests.now c.args.step.now.entry) is
    (own ∙ ap (λ (o : Option ℕ). row_of c.args.self.now asked.stream ++ o ∷ []) c.op_of.ensures) others h) c.add.ensures.own c.add.ensures.others

pub returns-in-None : goal.returns-in-None
returns-in-None c =
    let nowhere : slice_get c.args.requests.now c.in-Asked.request ≡ None = slice_get_past c.args.requests.now c.in-Asked.request c.in-None.ensures.lookup.3 in
    λ before h. has-same c.args.self.now before (asked_by c.args.requests.now c.args.step.now.entry) (ap (asked_by c.args.requests.now) c.in-Asked.is ∙ nowhere) h
