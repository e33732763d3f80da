use Rattle.std.proofs.Common.{◌≡◌, ◌+◌, List, [], ◌∷◌, ◌++◌, length, sym, ap, ◌∙◌, refl, subst, arith}
use Rattle.std.specs.Prelude.{drop, slice_get, slice_set, take}
use Rattle.std.proofs.lemmas.Bool.{eqb-true}
use Rattle.entry_judge.specs.declared.timed.Timed.{Timed}
use Rattle.desk_trail.specs.declared.entry.Entry.TheVariants as entry_of
use Rattle.desk_trail.specs.declared.room.Room.{Room}
use Rattle.desk_trail.specs.Clients.{Client}
use Rattle.desk_trail.specs.Facts.{Fact, Lists, facts_of}
use Rattle.desk_trail.specs.Facts as fact
use Rattle.desk_trail.specs.Looks.{IsLook}
use Rattle.desk_trail.specs.States.{ServerState}
use Rattle.desk_trail.specs.declared.step.Step.{Step}
use Rattle.desk_trail.specs.Written.{IsAtLeast, an_entry}
use Rattle.legal_trail.specs.Recorded.{Recorded, told_in}
use Rattle.wired_trail.specs.Lines.{Lines as WireLines}
use Rattle.desk_core.specs.Appends.{AppendsOf, IsOfLook}
use Rattle.desk_core.specs.Kept.{IsKept}
use Rattle.desk_core.specs.Looks.{StillSelects}
use Rattle.desk_core.proofs.AppendsLemmas.{grown-same, grown-trans}
use Rattle.desk_core.proofs.BesideLemmas.{grown-entry}
use Rattle.desk_core.proofs.KeptLemmas.{IsKept-room}
use Rattle.desk_core.proofs.LookLemmas.{IsKept-looked, OnOk-unless, StillSelects-looked, written-back}
use Rattle.desk_core.proofs.OfferLemmas.{OnOk-by}
use Rattle.desk_core.proofs.state.Core.tell_look.Goals.{then-is_err, else-is_err}
use Rattle.desk_core.proofs.state.Core.tell_look.Goals as goal

pub invariant_of-self : goal.invariant_of-self
invariant_of-self g c =
    IsKept-room c.self.inside.wired c.reserve_beside.new.wired c.self.inside.topology.topology c.self.inside.servers.items c.self.inside.gossip c.self.inside.closings c.self.inside.last c.self.inside.stopped
    c.reserve_beside.ensures.same c.reserve_beside.ensures.kept c.self.invariant

pub returns-in_err-reserve_beside-clause-appends : goal.returns-in_err-reserve_beside-clause-appends
returns-in_err-reserve_beside-clause-appends g c =
    let e = ap (λ s. s.trail) c.reserve_beside.ensures.same in
    rw (← c.self.view_is)
    (grown-same c.args.moment c.self.inside.wired.trail c.reserve_beside.new.wired.trail (ap (λ (t : Recorded). t.client) e) (ap (λ (t : Recorded). t.lists) e) (ap (λ (t : Recorded). t.steps) e))

pub invariant_of-self-else-is_err : goal.invariant_of-self-else-is_err
invariant_of-self-else-is_err g c =
    let work = rw (← c.self.view_is) at c.requires.work in
    let r : Recorded = c.reserve_beside.new.wired.trail in
    let how = c.args.answer.how in
    let kept =
    IsKept-room c.self.inside.wired c.reserve_beside.new.wired c.self.inside.topology.topology c.self.inside.servers.items c.self.inside.gossip c.self.inside.closings c.self.inside.last c.self.inside.stopped
    c.reserve_beside.ensures.same c.reserve_beside.ensures.kept c.self.invariant in
    let moved = OnOk-unless c.record_look-told.result c.is_err.result _ c.is_err.ensures.value c.if-is_err.false c.record_look-told.ensures.moved in
    let adds = c.record_look-told.ensures.adds in
    let more : IsAtLeast (record { names = 0; events = 0; sessions = 0; requests = 0; steps = c.self.inside.closings + 1 }) r.room =
    subst (λ (m : Room). IsAtLeast m r.room) c.in_ok-room.ensures c.in_ok-reserve_beside.ensures.room in
    let steps = more.steps in
    let used = adds.room_used.steps in
    let items = c.self.inside.servers.items in
    let now = c.record_look-told.new.servers in
    let many : length now ≡ length items = c.record_look-told.auto.servers ∙ ap length c.deref_mut.ensures.value in
    let count : c.self.inside.servers.len ≡ length items = c.self.inside.servers.ok.0 in
    let back : take c.self.inside.servers.len (now ++ drop (length now) items) ≡ now = written-back c.self.inside.servers.len now items many (omega (arith, count)) in
    let trail : Recorded = c.record_look-told.new.wired.trail in
    let lines : WireLines = c.record_look-told.new.wired.lines in
    subst (λ (zs : List ServerState). IsKept trail lines c.self.inside.topology.topology zs c.self.inside.gossip c.self.inside.closings c.self.inside.last c.self.inside.stopped) (sym back)
    (IsKept-looked r trail c.reserve_beside.new.wired.lines lines c.self.inside.topology.topology items now
    (slice_set r.point.state.commands c.args.op c.record_look-told.new.running) c.self.inside.gossip c.self.inside.closings c.self.inside.last c.args.moment c.args.op
    c.args.words.0 c.args.words.1 c.self.inside.stopped c.args.answer.kept how (entry_of.Looked c.args.op c.args.words.0 c.args.words.1 c.args.answer.kept how) adds moved
    work.ready.runs (ap (λ s. s.lines) c.record_look-told.ensures.same) work.ready.now (omega arith) kept)

pub returns-clause-waits : goal.returns-clause-waits
returns-clause-waits g c =
    let r : Recorded = c.reserve_beside.new.wired.trail in
    let work = rw (← c.self.view_is) at c.requires.work in
    let e : r ≡ record c.self.inside.wired.trail { room = r.room } = ap (λ s. s.trail) c.reserve_beside.ensures.same in
    let looks = rw (← c.self.view_is) at c.requires.looks in
    let told : IsLook r.client r.point.state c.args.moment c.args.op c.args.words.0 c.args.words.1 c.args.answer.kept c.args.answer.how =
    subst (λ (t : Recorded). IsLook t.client t.point.state c.args.moment c.args.op c.args.words.0 c.args.words.1 c.args.answer.kept c.args.answer.how) (sym e) looks in
    let there = ap (λ (t : Recorded). slice_get t.point.state.commands c.args.op) e ∙ work.there in
    rw (← c.self.view_is)
    (OnOk-by c.record_look-told.result _ _ (λ moved none.
    subst (λ (k : Client). StillSelects k c.args.moment c.args.operation.now c.record_look-told.new.running) (ap (λ (t : Recorded). t.client) e)
    (StillSelects-looked r c.record_look-told.new.wired.trail c.args.moment c.args.op c.args.words.0 c.args.words.1 c.args.answer.kept c.args.answer.how
    (entry_of.Looked c.args.op c.args.words.0 c.args.words.1 c.args.answer.kept c.args.answer.how) c.record_look-told.new.servers c.args.operation.now c.record_look-told.new.running none
    c.record_look-told.ensures.adds moved there c.requires.selects told)) c.record_look-told.ensures.moved)

pub returns-clause-appends : goal.returns-clause-appends
returns-clause-appends g c =
    let old : Recorded = c.self.inside.wired.trail in
    let r : Recorded = c.reserve_beside.new.wired.trail in
    let new : Recorded = c.record_look-told.new.wired.trail in
    let e = ap (λ s. s.trail) c.reserve_beside.ensures.same in
    let how = c.args.answer.how in
    let grown : AppendsOf ⊥ (IsOfLook c.args.op c.args.words.0 c.args.words.1) c.args.moment old new =
    grown-trans c.args.moment old r new
    (grown-same c.args.moment old r (ap (λ (t : Recorded). t.client) e) (ap (λ (t : Recorded). t.lists) e) (ap (λ (t : Recorded). t.steps) e))
    (grown-entry an_entry c.args.moment (entry_of.Looked c.args.op c.args.words.0 c.args.words.1 c.args.answer.kept how)
    (fact.Looked c.args.op c.args.words.0 c.args.words.1 c.args.answer.kept how) r new c.record_look-told.ensures.adds (λ t. absurd (cc))
    (λ own. record { names = λ o named. sym (eqb-true c.args.op o named); looks = (refl, refl); leases = tt })) in
    elim c.if-is_err.branch [
      | then-is_err w ↦ rw w.self-is (rw (← c.self.view_is) grown)
      | else-is_err w ↦ rw w.self-is (rw (← c.self.view_is) grown)
    ]

pub returns-clause-told : goal.returns-clause-told
returns-clause-told g c =
    let old : Recorded = c.self.inside.wired.trail in
    let r : Recorded = c.reserve_beside.new.wired.trail in
    let new : Recorded = c.record_look-told.new.wired.trail in
    let e = ap (λ s. s.trail) c.reserve_beside.ensures.same in
    let look : Timed Fact = record { at = c.args.moment; what = fact.Looked c.args.op c.args.words.0 c.args.words.1 c.args.answer.kept c.args.answer.how } in
    let same : told_in r ≡ told_in old =
    ap (λ (l : Lists). facts_of l r.steps) (ap (λ (t : Recorded). t.lists) e) ∙ ap (λ (ss : List Step). facts_of old.lists ss) (ap (λ (t : Recorded). t.steps) e) in
    let adds = c.record_look-told.ensures.adds in
    let told : told_in new ≡ told_in old ++ look ∷ [] = adds.told_now ∙ ap (λ (ts : List (Timed Fact)). ts ++ look ∷ []) same in
    let on_ok = OnOk-by c.record_look-told.result _ (told_in new ≡ told_in old ++ look ∷ []) (λ moved. told) c.record_look-told.ensures.moved in
    elim c.if-is_err.branch [
      | then-is_err w ↦ rw w.self-is (rw (← c.self.view_is) on_ok)
      | else-is_err w ↦ rw w.self-is (rw (← c.self.view_is) on_ok)
    ]
