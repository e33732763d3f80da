use Rattle.std.proofs.Common.{◌≡◌, None, Some, refl, sym, ◌∙◌, subst, arith, w32, to_z, of_z}
use Rattle.std.proofs.lemmas.Int.{to_z-of_z}
use Rattle.std.specs.Option.{option_copied}
use Rattle.cmd_build.specs.Sizes.{Tells, excess}
use Rattle.cmd_state.specs.Inside.{selected_of}
use Rattle.desk_trail.specs.declared.request.Purpose.TheVariants as purpose
use Rattle.request_build.proofs.CommandLemmas.{request-of, too-large}
use Rattle.request_build.proofs.command.command_request.Goals as goal

pub returns-in_ok-sent-in-Ok : goal.returns-in_ok-sent-in-Ok
returns-in_ok-sent-in-Ok c =
    let i = c.args.sending in
    let extras = c.extras_of-extras.result in
    let id = to_z w32 (of_z w32 c.id_of-id.result) in
    record {
      answers = record {
        on = refl;
        id = to_z-of_z w32 c.id_of-id.result (record { sfits = c.id_of-id.type_inv }) ∙ c.id_of-id.ensures;
        is_for = refl;
        again = let a = c.in_ok-sent-in-Ok.ensures.value in let b = c.as_slice.ensures.value in let v = c.bytes.view_is in cc;
        is_of = λ client w time h.
            request-of client w time c.args.at.op i c.args.at.stream (selected_of c.in-Some.selected.now) extras
            (record { stream = c.args.at.stream; id = id; purpose = purpose.Command c.args.at.op; bytes = c.in-Ok.bytes }) h (sym c.in-Some.ensures.selected)
            (c.extras_of-extras.ensures.extras client w h.settings h.session)
            (subst (λ s. excess i.command.now i.settings.now.db extras (option_copied i.time) s ≡ None) c.sizes_of.ensures c.in-Ok.ensures.fits) refl (record { bytes = c.in-Ok.ensures.asks; framed = c.in-Ok.ensures.framed });
      };
    }

pub returns-in-Err-TooLarge : goal.returns-in-Err-TooLarge
returns-in-Err-TooLarge c =
    let i = c.args.sending in
    let extras = c.extras_of-extras.result in
    let told = subst (λ f. Tells f (excess i.command.now i.settings.now.db extras (option_copied i.time) c.sizes_of.result)) c.in-Err-TooLarge.field-0-is c.in-Err-TooLarge.ensures.too_large in
    let over = subst (λ s. excess i.command.now i.settings.now.db extras (option_copied i.time) s ≡ Some (record { size = c.in-Err-TooLarge.size; most = c.in-Err-TooLarge.most }))
    c.sizes_of.ensures told in
    record {
      answers = λ client w time h.
          let large = too-large client w time c.args.at.op i c.args.at.stream (selected_of c.in-Some.selected.now) extras c.in-Err-TooLarge.size c.in-Err-TooLarge.most h
          (sym c.in-Some.ensures.selected) (c.extras_of-extras.ensures.extras client w h.settings h.session) over in
          let size = c.in-Err-TooLarge.size-is in
          let most = c.in-Err-TooLarge.most-is in
          grind (arith, large, size, most);
    }
