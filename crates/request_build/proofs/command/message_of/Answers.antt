use Rattle.std.proofs.Common.{◌≡◌, ◌≤◌, ◌++◌, ℕ, List, pos, length, refl, sym, ap, ◌∙◌, subst, arith, w32}
use Rattle.std.proofs.lemmas.Int.{to_z-of_z}
use Rattle.std.specs.Option.{option_copied}
use Rattle.bson_wire.specs.Spelled.{spelled}
use Rattle.cmd_build.specs.Commands.{command_document}
use Rattle.cmd_build.proofs.DepthLemmas.{depth_of-command_document}
use Rattle.conn_uri.specs.Configurations.{Configuration}
use Rattle.msg_wire.specs.Framing.{Framed, frame}
use Rattle.msg_wire.specs.Framing.{message_of as framed_message}
use Rattle.msg_wire.proofs.Framings.{Framed-frame, frame-parts, length-frame}
use Rattle.request_build.proofs.CommandLemmas.{fits, size-is}
use Rattle.request_build.proofs.FlagLemmas.{refused_bit-0}
use Rattle.request_build.proofs.command.message_of.Goals as goal

pub returns-in-Ok-append-clause-asks : goal.returns-in-Ok-append-clause-asks
returns-in-Ok-append-clause-asks c =
    let db = c.as_str-db.result.now in
    let d = command_document c.args.sending.command.now db c.args.extras.now (option_copied c.args.sending.time) in
    let same : db ≡ c.args.sending.settings.now.db = c.as_str-db.ensures.value ∙ ap (λ (s : Configuration). s.db) c.settings.view_is in
    let id = to_z-of_z w32 c.args.id c.ranges.id in
    let front = rw id at c.in-Ok-front_of.ensures in
    let size = size-is c.args.sending.command.now db c.args.extras.now (option_copied c.args.sending.time) c.args.sizes c.in-Ok.size c.requires.size c.in-Ok.ensures.fits c.in-Ok.ensures.size in
    c.from_vec.ensures.value ∙ c.in-Ok-append.ensures.spelled ∙ ap (λ (xs : List ℕ). xs ++ spelled d) front ∙ frame-parts c.args.id (pos 0) 0 _ d (omega (arith, size))
    ∙ ap (λ (name : List ℕ). frame c.args.id (pos 0) 0 (command_document c.args.sending.command.now name c.args.extras.now (option_copied c.args.sending.time))) same

pub returns-in-Ok-append-clause-framed : goal.returns-in-Ok-append-clause-framed
returns-in-Ok-append-clause-framed c =
    let db = c.as_str-db.result.now in
    let d = command_document c.args.sending.command.now db c.args.extras.now (option_copied c.args.sending.time) in
    let same : db ≡ c.args.sending.settings.now.db = c.as_str-db.ensures.value ∙ ap (λ (s : Configuration). s.db) c.settings.view_is in
    let size : length (frame c.args.id (pos 0) 0 d) ≤ 48000000 =
    omega (arith, length-frame c.args.id (pos 0) 0 d, fits c.args.sending.command.now db c.args.extras.now (option_copied c.args.sending.time) c.args.sizes c.requires.size c.in-Ok.ensures.fits) in
    let framed = Framed-frame c.args.id (pos 0) 0 d c.ranges.id (record { sfits = omega arith }) (omega arith) refused_bit-0 refl
    (c.in-Ok-append.ensures.spells c.requires.levels c.requires.time) size in
    let named = subst (λ (name : List ℕ). Framed (frame c.args.id (pos 0) 0 (command_document c.args.sending.command.now name c.args.extras.now (option_copied c.args.sending.time)))
    (framed_message c.args.id (pos 0) 0 (command_document c.args.sending.command.now name c.args.extras.now (option_copied c.args.sending.time)))) same framed in
    subst (λ (bytes : List ℕ). Framed bytes (framed_message c.args.id (pos 0) 0 (command_document c.args.sending.command.now c.args.sending.settings.now.db c.args.extras.now (option_copied c.args.sending.time))))
    (sym (returns-in-Ok-append-clause-asks c)) named

pub unreachable-requires : goal.unreachable-requires
unreachable-requires c =
    let deep = depth_of-command_document 90 c.args.sending.command.now c.as_str-db.result.now c.args.extras.now (option_copied c.args.sending.time) c.requires.levels in
    omega (arith, c.in-Err-Deep.ensures.deep c.in-Err-Deep.field-0-is, deep, c.requires.time)

pub unreachable-requires-in-Err-Long : goal.unreachable-requires-in-Err-Long
unreachable-requires-in-Err-Long c =
    let long = fits c.args.sending.command.now c.as_str-db.result.now c.args.extras.now (option_copied c.args.sending.time) c.args.sizes c.requires.size c.in-Ok.ensures.fits in
    omega (arith, c.in-Err-Long.ensures.long c.in-Err-Long.field-0-is, long)
