use Rattle.std.proofs.Common.{◌≡◌, ◌+◌, length, refl, sym, ap, ◌∙◌, arith, inl, inr}
use Rattle.std.specs.Prelude.{slice_get}
use Rattle.std.proofs.Math.ListN.{drop}
use Rattle.std.proofs.lemmas.Bool.{cases_lt}
use Rattle.std.proofs.lemmas.Option.{slice_get_read, slice_get_within}
use Rattle.desk_core.specs.Servers.{closing_of, closings}
use Rattle.desk_core.proofs.AppendsLemmas.{Appends-trans}
use Rattle.desk_core.proofs.ShutLemmas.{at-or-below, closings-drop}
use Rattle.desk_core.proofs.ending.shut_pools.Goals as goal

pub shutting-preserved : goal.shutting-preserved
shutting-preserved g c =
    let i = c.shutting.invariant in
    let test = c.shutting-test.true in
    let room = c.shut_pool.ensures.room in
    let closing : closings (drop c.shutting.place c.args.servers.now) ≡ closing_of c.index-servers-place.result + closings (drop (c.shutting.place + 1) c.args.servers.now) =
    closings-drop c.args.servers.now c.shutting.place c.index-servers-place.result (slice_get_read c.args.servers.now (length c.args.servers.now) c.shutting.place c.index-servers-place.result refl test c.index-servers-place.is) in
    let space = i.4 in
    let faults = i.5 in
    let later = c.shut_pool.ensures.faults in
    let at = c.shutting.place in (
      omega arith,
      c.shut_pool.ensures.paid,
      c.shut_pool.ensures.moment,
      λ x h. c.shut_pool.ensures.others x (λ e. absurd (omega arith)) ∙ i.3 x (omega arith),
      omega arith,
      omega arith,
      Appends-trans c.args.moment c.args.wired.now.trail c.shutting.wired.trail c.shut_pool.new.wired.trail i.6 c.shut_pool.ensures.appends,
      λ x s h there stays. elim (at-or-below x at h) [
        | inl same ↦ c.shut_pool.ensures.shut s (ap (λ y. slice_get c.shut_pool.new.wired.trail.point.state.servers y) (sym same) ∙ there) stays
        | inr ahead ↦ i.7 x s ahead (sym (c.shut_pool.ensures.others x (λ e. absurd (omega arith))) ∙ there) stays
      ],
    )

pub returns-clause-shut : goal.returns-clause-shut
returns-clause-shut g c = λ x s there stays.
    let i = c.shutting.invariant in
    let end = c.shutting-test.false in
    elim (cases_lt x c.shutting.place) [
      | inl below ↦ i.7 x s below there stays
      | inr behind ↦
          let within = slice_get_within c.args.servers.now x s (sym (i.3 x behind) ∙ there) in
          absurd (omega arith)
    ]
