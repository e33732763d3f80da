use Rattle.std.proofs.Common.{◌≡◌, ◌++◌, ◌∙◌, Ok, ap, codes, arith}
use Rattle.std.specs.Fmt.{decimal}
use Rattle.host_name.specs.Reading.{reading}
use Rattle.member_serve.specs.Words.{loopback}
use Rattle.member_serve.proofs.HostLemmas.{reading-loopback}
use Rattle.member_serve.proofs.member.loopback_host.Goals as goal

pub returns-in-Ok : goal.returns-in-Ok
returns-in-Ok c =
    let spells : c.as_str.result.now ≡ codes "127.0.0.1:" ++ decimal c.args.port = c.as_str.ensures.value ∙ c.in_ok-text.ensures.ok in
    let reads : reading c.as_str.result.now ≡ Ok (loopback c.args.port) = ap reading spells ∙ reading-loopback c.args.port c.requires (omega arith) in
    let read : Ok c.in-Ok.host ≡ Ok (loopback c.args.port) = c.in-Ok.ensures.read (λ clash. cc) ∙ reads in
    cc
