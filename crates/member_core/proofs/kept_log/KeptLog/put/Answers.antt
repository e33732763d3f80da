use Rattle.std.proofs.Common.{◌++◌, List, ap, arith, length, length-append, subst, sym, take, ◌∙◌}
use Rattle.std.proofs.lemmas.List.{length-take-le}
use Rattle.std.specs.List.{zip}
use Rattle.std.specs.Prelude.{Bool}
use Rattle.member_core.specs.Places.{HasNoneTwice}
use Rattle.member_core.specs.declared.log.LogEntry.{LogEntry}
use Rattle.member_core.proofs.ShareLemmas.{entries-of, length-of, marks-of}
use Rattle.member_core.proofs.kept_log.KeptLog.put.Goals as goal

pub put_entries-requires-clause-from : goal.put_entries-requires-clause-from
put_entries-requires-clause-from c =
    omega (arith, length-of c.self.inside.entries c.self.inside.marks.items c.args.self.now c.self.view_is c.self.invariant.marks, c.requires.from)

pub put_entries-requires-clause-once : goal.put_entries-requires-clause-once
put_entries-requires-clause-once c =
    subst (λ (l : List LogEntry). HasNoneTwice (take c.args.from l ++ c.args.entries.now))
    (entries-of c.self.inside.entries c.self.inside.marks.items c.args.self.now c.self.view_is c.self.invariant.marks) c.requires.once

pub invariant_of-self-2 : goal.invariant_of-self-2
invariant_of-self-2 c =
    let es = c.self.inside.entries in
    let ms = c.self.inside.marks.items in
    let count = length-of es ms c.args.self.now c.self.view_is c.self.invariant.marks in
    let old = ap (λ (l : List Bool). length (take c.args.known l ++ c.args.marks.now)) c.reserve.ensures.items in
    record {
      marks =
          omega (
            arith,
            ap (λ (l : List Bool). length l) c.put_tail.ensures,
            ap (λ (l : List LogEntry). length l) c.in_ok-put_entries.ensures.ok,
            old,
            length-append (take c.args.known ms) c.args.marks.now,
            length-append (take c.args.from es) c.args.entries.now,
            length-take-le c.args.known ms (omega (arith, count, c.self.invariant.marks, c.requires.known)),
            length-take-le c.args.from es (omega (arith, count, c.requires.from)),
            c.requires.lengths,
          );
      places = c.put_entries.ensures.places;
    }

pub returns-clause-ok : goal.returns-clause-ok
returns-clause-ok c =
    let es = entries-of c.self.inside.entries c.self.inside.marks.items c.args.self.now c.self.view_is c.self.invariant.marks in
    let ms = marks-of c.self.inside.entries c.self.inside.marks.items c.args.self.now c.self.view_is c.self.invariant.marks in
    let entries = c.in_ok-put_entries.ensures.ok ∙ ap (λ (l : List LogEntry). take c.args.from l ++ c.args.entries.now) (sym es) in
    let marks = c.put_tail.ensures ∙ ap (λ (l : List Bool). take c.args.known l ++ c.args.marks.now) (c.reserve.ensures.items ∙ sym ms) in
    λ i. zip (entries i) (marks i)
