use Rattle.std.proofs.Common.{◌≡◌, ◌∙◌, ap}
use Rattle.std.proofs.lemmas.Result.{on_ok_weaker}
use Rattle.desk_trail.specs.Written.{lists_of}
use Rattle.trail_events.specs.Telling.{ready_there}
use Rattle.trail_events.proofs.ToldLemmas.{telling-more}
use Rattle.trail_events.proofs.telling.note_placed.Goals as goal

pub returns : goal.returns
returns c = λ ts t is was.
    let old = c.args.telling.now in
    let lists = lists_of c.args.trail.now in
    let e = c.args.step.now.entry in
    let there : c.was_ready-was_ready.result ≡ ready_there old.ready.items e =
    c.was_ready-was_ready.ensures ∙ ap (λ ready. ready_there ready e) c.as_slice.ensures.value in
    on_ok_weaker c.note_pool.result
    (telling-more lists e ts t c.was_ready-was_ready.result c.begin.new.events old (record { events = c.tell.new.events; ready = c.note_pool.new.ready })
    is was c.in_ok-begin.ensures there (c.in_ok-tell.ensures t.what is))
    (c.note_pool.ensures lists t.what is)
