use Rattle.std.proofs.Common.{◌+◌, ◌++◌, map, length, sym, subst}
use Rattle.std.specs.List.{filter_map}
use Rattle.std.specs.Option.{option_and_then}
use Rattle.desk_trail.specs.Owed as owed
use Rattle.desk_trail.specs.States.{number_of}
use Rattle.desk_trail.specs.Topologies.{cleared}
use Rattle.desk_core.specs.Kept.{IsWriting}
use Rattle.desk_core.proofs.AppendsLemmas.{Appends-trans}
use Rattle.desk_core.proofs.FollowLemmas.{IsDropped, IsNamed, IsReadied, clears-next, drops-next, moved, readies-next}
use Rattle.desk_core.proofs.RestLemmas.{KeepsChecks-trans}
use Rattle.desk_core.proofs.state.Core.follow.Goals as goal

pub drop_all-requires-clause-writing : goal.drop_all-requires-clause-writing
drop_all-requires-clause-writing g c =
    let w = c.requires.writing in
    let change = c.args.change.now in
    let named : IsNamed c.args.self.now c.name_all.new.self c.args.moment change.added =
    subst (λ xs. IsNamed c.args.self.now c.name_all.new.self c.args.moment xs) c.as_slice.ensures.value (record { ok = c.in_ok-name_all.ensures.ok; others = c.in_ok-name_all.ensures.others }) in (
      moved c.args.self.now.trail.point.state change ++ w.0,
      w.1 + 2,
      subst (λ ys. IsWriting c.name_all.new.self c.args.moment ((w.1 + 2) + length ys)
          (map (λ x. owed.Dropped x) (filter_map (number_of c.name_all.new.self.trail.point.state) ys) ++ (moved c.args.self.now.trail.point.state change ++ w.0))) (sym c.as_slice-2.ensures.value)
          (drops-next c.args.self.now c.name_all.new.self c.name_all.new.self c.name_all.new.self c.args.moment change c.requires.apart named w.0 w.1 w.2),
    )

pub ready_some-requires : goal.ready_some-requires
ready_some-requires g c =
    let w = c.requires.writing in
    let change = c.args.change.now in
    let named : IsNamed c.args.self.now c.name_all.new.self c.args.moment change.added =
    subst (λ xs. IsNamed c.args.self.now c.name_all.new.self c.args.moment xs) c.as_slice.ensures.value (record { ok = c.in_ok-name_all.ensures.ok; others = c.in_ok-name_all.ensures.others }) in
    let dropped : IsDropped c.name_all.new.self c.drop_all.new.self c.args.moment change.removed =
    subst (λ xs. IsDropped c.name_all.new.self c.drop_all.new.self c.args.moment xs) c.as_slice-2.ensures.value (record { writing = c.drop_all.ensures.writing; others = c.drop_all.ensures.others }) in
    record {
      writing = (
        cleared (option_and_then (number_of c.args.self.now.trail.point.state) change.clear) ++ w.0,
        w.1 + 1,
        readies-next c.args.self.now c.name_all.new.self c.drop_all.new.self c.drop_all.new.self c.args.moment change c.requires.apart named dropped w.0 w.1 w.2,
      );
    }

pub clear_some-requires : goal.clear_some-requires
clear_some-requires g c =
    let w = c.requires.writing in
    let change = c.args.change.now in
    let named : IsNamed c.args.self.now c.name_all.new.self c.args.moment change.added =
    subst (λ xs. IsNamed c.args.self.now c.name_all.new.self c.args.moment xs) c.as_slice.ensures.value (record { ok = c.in_ok-name_all.ensures.ok; others = c.in_ok-name_all.ensures.others }) in
    let dropped : IsDropped c.name_all.new.self c.drop_all.new.self c.args.moment change.removed =
    subst (λ xs. IsDropped c.name_all.new.self c.drop_all.new.self c.args.moment xs) c.as_slice-2.ensures.value (record { writing = c.drop_all.ensures.writing; others = c.drop_all.ensures.others }) in
    let made : IsReadied c.drop_all.new.self c.ready_some.new.self c.args.moment change.ready = record { writing = c.ready_some.ensures.writing; numbers = c.ready_some.ensures.numbers } in
    record {
      writing = (
        w.0,
        w.1,
        clears-next c.args.self.now c.name_all.new.self c.drop_all.new.self c.ready_some.new.self c.args.moment change c.requires.apart named dropped made w.0 w.1 w.2,
      );
    }

pub returns-clause-ok : goal.returns-clause-ok
returns-clause-ok g c = λ rest n before.
    let change = c.args.change.now in
    let named : IsNamed c.args.self.now c.name_all.new.self c.args.moment change.added =
    subst (λ xs. IsNamed c.args.self.now c.name_all.new.self c.args.moment xs) c.as_slice.ensures.value (record { ok = c.in_ok-name_all.ensures.ok; others = c.in_ok-name_all.ensures.others }) in
    let dropped : IsDropped c.name_all.new.self c.drop_all.new.self c.args.moment change.removed =
    subst (λ xs. IsDropped c.name_all.new.self c.drop_all.new.self c.args.moment xs) c.as_slice-2.ensures.value (record { writing = c.drop_all.ensures.writing; others = c.drop_all.ensures.others }) in
    let made : IsReadied c.drop_all.new.self c.ready_some.new.self c.args.moment change.ready = record { writing = c.ready_some.ensures.writing; numbers = c.ready_some.ensures.numbers } in
    c.clear_some.ensures.writing rest n
    (clears-next c.args.self.now c.name_all.new.self c.drop_all.new.self c.ready_some.new.self c.args.moment change c.requires.apart named dropped made rest n before)

pub returns-clause-appends : goal.returns-clause-appends
returns-clause-appends g c =
    Appends-trans _ _ _ _ c.in_ok-name_all.ensures.appends
    (Appends-trans _ _ _ _ c.drop_all.ensures.appends (Appends-trans _ _ _ _ c.ready_some.ensures.appends c.clear_some.ensures.appends))

pub returns-clause-checks : goal.returns-clause-checks
returns-clause-checks g c =
    KeepsChecks-trans _ _ _ c.in_ok-name_all.ensures.checks
    (KeepsChecks-trans _ _ _ c.drop_all.ensures.checks (KeepsChecks-trans _ _ _ c.ready_some.ensures.checks c.clear_some.ensures.checks))
