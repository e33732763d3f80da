use Rattle.std.proofs.Common.{arith}
use Rattle.conn_uri.specs.Inside.{part_of}
use Rattle.conn_uri.proofs.EachLemmas.{ok_is_read}
use Rattle.conn_uri.proofs.ReadingLemmas.{decoded_in-hosts_counted}
use Rattle.conn_uri.proofs.reading.parse.Goals as goal

pub settle-requires-clause-some : goal.settle-requires-clause-some
settle-requires-clause-some c =
    (decoded_in-hosts_counted (part_of c.in-Ok.body) c.in-Ok-decode_body.decoded (ok_is_read _ _ _ _ c.decode_body.ensures c.in-Ok-decode_body.is)).0

pub settle-requires-clause-most : goal.settle-requires-clause-most
settle-requires-clause-most c =
    let counted = (decoded_in-hosts_counted (part_of c.in-Ok.body) c.in-Ok-decode_body.decoded (ok_is_read _ _ _ _ c.decode_body.ensures c.in-Ok-decode_body.is)).1 in
    let shorter = c.in-Ok.ensures.short in
    let most = c.requires in
    omega (arith, counted, shorter, most)
