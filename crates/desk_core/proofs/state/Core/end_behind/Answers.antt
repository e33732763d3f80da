use Rattle.std.proofs.Common.{◌≤◌, List, [], ◌∷◌, ◌++◌, inl, inr, sym, ap, subst, arith}
use Rattle.desk_trail.specs.Attempts.{is_failure}
use Rattle.desk_trail.specs.Owed.{Owed}
use Rattle.desk_trail.specs.Owed as owed
use Rattle.legal_trail.specs.Recorded.{Recorded}
use Rattle.desk_core.specs.Appends.{AppendsAside}
use Rattle.desk_core.specs.Commands.{MovesOne}
use Rattle.desk_core.specs.Kept.{IsWriting}
use Rattle.desk_core.specs.Receiving.{offers}
use Rattle.desk_core.proofs.AppendsLemmas.{Appends-trans, grown-plain, grown-trans, grown-weaken}
use Rattle.desk_core.proofs.AttemptLemmas.{rose-from, there-moved}
use Rattle.desk_core.proofs.BesideLemmas.{MovesOne-aside, MovesOne-trans}
use Rattle.desk_core.proofs.OfferLemmas.{OnOk-by}
use Rattle.desk_core.proofs.PoolLemmas.{IsWriting-less}
use Rattle.desk_core.proofs.state.Core.end_behind.Goals as goal

pub offer_some-requires-clause-writing : goal.offer_some-requires-clause-writing
offer_some-requires-clause-writing g c =
    let rest : List Owed = owed.CheckedIn c.args.at.op (is_failure c.args.ended.end) ∷ [] in
    let debts : List Owed = offers c.in_ok-event.event ++ rest in
    let heard : IsWriting c.hear_time.new.self c.args.at.moment 0 debts =
    c.hear_time.ensures.writing debts
    (IsWriting-less c.write_end.new.self c.args.at.moment 1 debts
    (IsWriting-less c.write_end.new.self c.args.at.moment 2 debts (IsWriting-less c.write_end.new.self c.args.at.moment 3 debts c.in_ok-event.ensures.writing))) in
    (rest, heard)

pub returns-in_err-offer_some-clause-appends : goal.returns-in_err-offer_some-clause-appends
returns-in_err-offer_some-clause-appends g c =
    let old : Recorded = c.args.self.now.trail in
    let a : Recorded = c.write_end.new.self.trail in
    let b : Recorded = c.hear_time.new.self.trail in
    let d : Recorded = c.offer_some.new.self.trail in
    let aside : AppendsAside ⊥ c.args.at.moment a d = Appends-trans c.args.at.moment a b d c.hear_time.ensures.appends c.offer_some.ensures.appends in
    grown-trans c.args.at.moment old a d (grown-weaken c.args.at.moment old a (λ x. inr x) c.write_end.ensures.appends) (grown-weaken c.args.at.moment a d (λ x. absurd x) (grown-plain c.args.at.moment c.args.at.op a d aside))

pub returns-in_err-make_room-clause-appends : goal.returns-in_err-make_room-clause-appends
returns-in_err-make_room-clause-appends g c =
    let old : Recorded = c.args.self.now.trail in
    let a : Recorded = c.write_end.new.self.trail in
    let b : Recorded = c.hear_time.new.self.trail in
    let d : Recorded = c.offer_some.new.self.trail in
    let e : Recorded = c.make_room.new.self.trail in
    let aside : AppendsAside ⊥ c.args.at.moment a e =
    Appends-trans c.args.at.moment a b e c.hear_time.ensures.appends (Appends-trans c.args.at.moment b d e c.offer_some.ensures.appends (c.make_room.ensures.appends c.args.at.moment)) in
    grown-trans c.args.at.moment old a e (grown-weaken c.args.at.moment old a (λ x. inr x) c.write_end.ensures.appends) (grown-weaken c.args.at.moment a e (λ x. absurd x) (grown-plain c.args.at.moment c.args.at.op a e aside))

pub check_in-requires-clause-owes : goal.check_in-requires-clause-owes
check_in-requires-clause-owes g c =
    let rest : List Owed = owed.CheckedIn c.args.at.op (is_failure c.args.ended.end) ∷ [] in
    let debts : List Owed = offers c.in_ok-event.event ++ rest in
    let heard : IsWriting c.hear_time.new.self c.args.at.moment 0 debts =
    c.hear_time.ensures.writing debts
    (IsWriting-less c.write_end.new.self c.args.at.moment 1 debts
    (IsWriting-less c.write_end.new.self c.args.at.moment 2 debts (IsWriting-less c.write_end.new.self c.args.at.moment 3 debts c.in_ok-event.ensures.writing))) in
    subst (λ failed. IsWriting c.make_room.new.self c.args.at.moment 3 (owed.CheckedIn c.args.at.op failed ∷ [])) (sym c.has_failed.ensures.failure)
    (c.in_ok-make_room.ensures.ok c.args.at.moment 0 rest (c.in_ok-offer_some.ensures.ok rest heard))

pub check_in-requires-clause-there : goal.check_in-requires-clause-there
check_in-requires-clause-there g c =
    let old : Recorded = c.args.self.now.trail in
    let a : Recorded = c.write_end.new.self.trail in
    let b : Recorded = c.hear_time.new.self.trail in
    let d : Recorded = c.offer_some.new.self.trail in
    let e : Recorded = c.make_room.new.self.trail in
    let aside : AppendsAside ⊥ c.args.at.moment a e =
    Appends-trans c.args.at.moment a b e c.hear_time.ensures.appends (Appends-trans c.args.at.moment b d e c.offer_some.ensures.appends (c.make_room.ensures.appends c.args.at.moment)) in
    let moved : MovesOne c.args.at.op c.write_end.new.operation old e =
    MovesOne-aside c.args.at.op c.args.at.moment c.write_end.new.operation old a e c.in_ok-event.ensures.moves aside in
    there-moved c.args.at.op c.args.operation.now c.write_end.new.operation old e moved c.requires.work.there

pub returns-clause-moves : goal.returns-clause-moves
returns-clause-moves g c =
    let old : Recorded = c.args.self.now.trail in
    let a : Recorded = c.write_end.new.self.trail in
    let b : Recorded = c.hear_time.new.self.trail in
    let d : Recorded = c.offer_some.new.self.trail in
    let e : Recorded = c.make_room.new.self.trail in
    let aside : AppendsAside ⊥ c.args.at.moment a e =
    Appends-trans c.args.at.moment a b e c.hear_time.ensures.appends (Appends-trans c.args.at.moment b d e c.offer_some.ensures.appends (c.make_room.ensures.appends c.args.at.moment)) in
    let moved : MovesOne c.args.at.op c.write_end.new.operation old e =
    MovesOne-aside c.args.at.op c.args.at.moment c.write_end.new.operation old a e c.in_ok-event.ensures.moves aside in
    OnOk-by c.check_in.result (MovesOne c.args.at.op c.check_in.new.operation e c.check_in.new.self.trail) (MovesOne c.args.at.op c.check_in.new.operation old c.check_in.new.self.trail)
    (MovesOne-trans c.args.at.op c.write_end.new.operation c.check_in.new.operation old e c.check_in.new.self.trail moved) c.check_in.ensures.moves

pub returns-clause-appends : goal.returns-clause-appends
returns-clause-appends g c =
    let old : Recorded = c.args.self.now.trail in
    let a : Recorded = c.write_end.new.self.trail in
    let b : Recorded = c.hear_time.new.self.trail in
    let d : Recorded = c.offer_some.new.self.trail in
    let e : Recorded = c.make_room.new.self.trail in
    let aside : AppendsAside ⊥ c.args.at.moment a e =
    Appends-trans c.args.at.moment a b e c.hear_time.ensures.appends (Appends-trans c.args.at.moment b d e c.offer_some.ensures.appends (c.make_room.ensures.appends c.args.at.moment)) in
    let f : Recorded = c.check_in.new.self.trail in
    let same = ap g.N.Net.faults c.write_end.ensures.net in
    let alike = ap g.N.Net.faults c.make_room.ensures.net in
    let heard = c.hear_time.ensures.faults in
    let offered = c.offer_some.ensures.faults in
    let later : g.N.Net.faults c.args.self.now.net ≤ g.N.Net.faults c.make_room.new.self.net = omega (arith, same, alike, heard, offered) in
    grown-trans c.args.at.moment old e f
    (grown-trans c.args.at.moment old a e (grown-weaken c.args.at.moment old a (λ x. inr x) c.write_end.ensures.appends) (grown-weaken c.args.at.moment a e (λ x. absurd x) (grown-plain c.args.at.moment c.args.at.op a e aside)))
    (grown-weaken c.args.at.moment e f
    (λ r. inl (rose-from (g.N.Net.faults c.args.self.now.net) (g.N.Net.faults c.make_room.new.self.net) (g.N.Net.faults c.check_in.new.self.net) later r)) c.check_in.ensures.appends)

pub hear_time-requires-clause-came : goal.hear_time-requires-clause-came
hear_time-requires-clause-came g c = λ tells. rw (c.write_end.ensures.net) (c.requires.came tells)
