use Rattle.std.proofs.Common.{ap, arith, length, ◌∙◌, take, drop}
use Rattle.std.proofs.lemmas.List.{length-take-le, take-append-drop}
use Rattle.shell_top.proofs.running.write_text.Goals as goal

pub returns-in-Err-clause-written : goal.returns-in-Err-clause-written
returns-in-Err-clause-written g c tells =
    let failed = c.in-Err.ensures.err tells in
    record {
      written = take failed.0 c.as_bytes.result.now;
      appended = failed.2;
      front = record { more = drop failed.0 c.as_bytes.result.now; joined = take-append-drop failed.0 c.as_bytes.result.now ∙ c.as_bytes.ensures.value };
      part = omega (arith, failed.1, length-take-le failed.0 c.as_bytes.result.now (omega (arith, failed.1)), ap length c.as_bytes.ensures.value);
    }
