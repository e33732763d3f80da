-- What reading a header gives, and what is known from it.
use Rattle.std.proofs.Common.{◌≡◌, ◌≤◌, ℕ, false, cond, not, eqb, ltb, List, length, Ok, Err, refl, arith}
use Rattle.std.proofs.lemmas.Bool.Decides.{nat_tests}
use Rattle.bson_doc.proofs.Steps.{err_or}
use Rattle.msg_wire.specs.declared.fault.MsgFault.TheVariants as fault
use Rattle.msg_wire.specs.Fields.{number_at}
use Rattle.msg_wire.specs.Reading.{is_length, checked_header, header_at}

-- A header that is in order: its messageLength is in its range and its opCode is that of OP_MSG.
pub record InOrder (total code : ℕ) : Type 0 where
  pub least : 26 ≤ total
  pub most : total ≤ 48000000
  pub is_code : code ≡ 2013

pub checked_header-in_order : (there total code : ℕ) → InOrder total code → checked_header there total code ≡ cond (ltb there total) (Err (fault.Short total)) (Ok total)
checked_header-in_order there total code h = grind (arith, nat_tests, h.least, h.most, h.is_code)

pub InOrder-from_tests : (total code : ℕ) → not (is_length total) ≡ false → not (eqb code 2013) ≡ false → InOrder total code
InOrder-from_tests total code a b = record { least = grind (arith, nat_tests); most = grind (arith, nat_tests); is_code = grind (arith, nat_tests) }

pub checked_header-ok : (there total code n : ℕ) → checked_header there total code ≡ Ok n → InOrder total code × (total ≤ there) × (n ≡ total)
checked_header-ok there total code n h =
    let a = err_or (not (is_length total)) _ _ n h in
    let b = err_or (not (eqb code 2013)) _ _ n a.1 in
    let c = err_or (ltb there total) _ _ n b.1 in
    (InOrder-from_tests total code a.0 b.0, grind (arith, nat_tests, c.0), cc (c.1))

pub header_at-ok : (bytes : List ℕ) (n : ℕ) → header_at bytes ≡ Ok n
    → InOrder n (number_at 12 bytes) × (n ≤ length bytes) × (n ≡ number_at 0 bytes)
unfolding header_at
header_at-ok bytes n h =
    let a = err_or (ltb (length bytes) 16) _ _ n h in
    let b = checked_header-ok (length bytes) (number_at 0 bytes) (number_at 12 bytes) n a.1 in
    rw b.2 (b.0, b.1, refl)

pub header_at-whole : (bytes : List ℕ) → 16 ≤ length bytes → InOrder (number_at 0 bytes) (number_at 12 bytes)
    → header_at bytes ≡ cond (ltb (length bytes) (number_at 0 bytes)) (Err (fault.Short (number_at 0 bytes))) (Ok (number_at 0 bytes))
unfolding header_at
header_at-whole bytes there h =
    let test : ltb (length bytes) 16 ≡ false = grind (arith, nat_tests) in
    rw test (checked_header-in_order (length bytes) (number_at 0 bytes) (number_at 12 bytes) h)
