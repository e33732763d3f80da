use Rattle.std.proofs.Common.{◌≡◌, ◌≤◌, ◌<◌, ◌++◌, length, sym, ap, ◌∙◌, subst, arith}
use Rattle.std.specs.Int.{w32}
use Rattle.std.proofs.lemmas.Int.{to_z-of_z}
use Rattle.bson_doc.specs.wire.Spelled.{spelled}
use Rattle.msg_wire.specs.Framing.{Framed, frame, message_of}
use Rattle.msg_wire.specs.Limits.{most_message}
use Rattle.msg_wire.proofs.Framings.{Framed-frame, frame-fits, frame-long, frame-parts, size-fits}
use Rattle.msg_wire.proofs.writing.write.Goals as goal

pub returns-then-spelling-gt-MOST_SPELLING-clause-long : goal.returns-then-spelling-gt-MOST_SPELLING-clause-long
returns-then-spelling-gt-MOST_SPELLING-clause-long c = λ e.
    (omega (arith, c.depth.ensures.depth, c.if-depth-gt-MOST_LEVELS.false), frame-long c.args.id c.args.to c.args.flags c.size-spelling.result c.args.body.now c.size-spelling.ensures.size c.if-spelling-gt-MOST_SPELLING.true)

pub returns-in_err-front-clause-size : goal.returns-in_err-front-clause-size
returns-in_err-front-clause-size c = λ levels more.
    let fits = frame-fits c.args.id c.args.to c.args.flags c.size-spelling.result c.args.body.now c.size-spelling.ensures.size (omega (arith, c.if-spelling-gt-MOST_SPELLING.false)) in
    absurd (omega (arith, fits, more))

pub returns-in_err-bytes-clause-size : goal.returns-in_err-bytes-clause-size
returns-in_err-bytes-clause-size c = λ levels more.
    let fits = frame-fits c.args.id c.args.to c.args.flags c.size-spelling.result c.args.body.now c.size-spelling.ensures.size (omega (arith, c.if-spelling-gt-MOST_SPELLING.false)) in
    absurd (omega (arith, fits, more))

pub returns-clause-ok : goal.returns-clause-ok
returns-clause-ok c =
    let id = to_z-of_z w32 c.args.id c.ranges.id in
    let to = to_z-of_z w32 c.args.to c.ranges.to in
    let front = rw (id, to) at c.in_ok-front.ensures in
    let body = c.args.body.now in
    let size = size-fits c.size-spelling.result body c.size-spelling.ensures.size (omega (arith, c.if-spelling-gt-MOST_SPELLING.false)) in
    c.from_vec.ensures.value ∙ c.in_ok-bytes.ensures.ok ∙ ap (λ xs. xs ++ spelled body) front
    ∙ frame-parts c.args.id c.args.to c.args.flags c.size-spelling.result body size

pub returns-clause-framed : goal.returns-clause-framed
returns-clause-framed c =
    let body = c.args.body.now in
    let size : length (frame c.args.id c.args.to c.args.flags body) ≤ most_message =
    frame-fits c.args.id c.args.to c.args.flags c.size-spelling.result body c.size-spelling.ensures.size (omega (arith, c.if-spelling-gt-MOST_SPELLING.false)) in
    let framed = Framed-frame c.args.id c.args.to c.args.flags body c.ranges.id c.ranges.to c.ranges.flags.fits c.requires.known c.requires.no_checksum c.in_ok-bytes.ensures.spells size in
    subst (λ bytes. Framed bytes (message_of c.args.id c.args.to c.args.flags body)) (sym (returns-clause-ok c)) framed

pub returns-clause-fits : goal.returns-clause-fits
returns-clause-fits c =
    (c.in_ok-bytes.ensures.fits.0, frame-fits c.args.id c.args.to c.args.flags c.size-spelling.result c.args.body.now c.size-spelling.ensures.size (omega (arith, c.if-spelling-gt-MOST_SPELLING.false)))

pub returns-clause-size : goal.returns-clause-size
returns-clause-size c = λ levels more.
    let fits = frame-fits c.args.id c.args.to c.args.flags c.size-spelling.result c.args.body.now c.size-spelling.ensures.size (omega (arith, c.if-spelling-gt-MOST_SPELLING.false)) in
    absurd (omega (arith, fits, more))
