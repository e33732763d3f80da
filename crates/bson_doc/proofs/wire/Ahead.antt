-- What follows bytes that are enough for an answer does not change it.
use Rattle.std.proofs.Common.{◌≡◌, ◌≢◌, ℕ, zero, suc, ◌+◌, ◌-◌, ◌<◌, ◌≤◌, Bool, true, false, ltb, ◌||◌, List, [], ◌∷◌, ◌++◌, length, take, drop, Some, Result, Ok, Err, refl, sym, ap, ◌∙◌, arith, inl, inr}
use Rattle.std.proofs.lemmas.Bool.{cases_Bool, cases_lt, lt-ltb, le-ltb, or_parts, ltb-false}
use Rattle.std.proofs.lemmas.List.{take-append-le, drop-append-le, length-append, length-drop}
use Rattle.byteorder.specs.Endian.{little_number}
use Rattle.bson_doc.specs.declared.name.Name.{Name}
use Rattle.bson_doc.specs.declared.value.Document.{Document}
use Rattle.bson_doc.specs.declared.value.Value.{Value}
use Rattle.bson_doc.specs.declared.bson_fault.BsonFault.{BsonFault}
use Rattle.bson_doc.specs.declared.bson_fault.BsonFault.TheVariants as fault
use Rattle.bson_doc.specs.Steps.{◌>>=◌, fault_of}
use Rattle.bson_doc.specs.wire.Reading.{behind_zero, elements_at, body_at, document_at, total_at, read, flaw}
use Rattle.bson_doc.proofs.wire.Documents.{Reader, document_of}

abbrev Element : Type 0
Element = Name × Value

-- what is read of a body whose elements were read, and which ends so
abbrev ended : ℕ → List ℕ → Result (List Element) BsonFault → Result (Document × List ℕ) BsonFault
ended at after read = read >>= (λ es. behind_zero at after >>= (λ rest. Ok (document_of es, rest)))

end_alike : (at : ℕ) (after more : List ℕ) (read : Result (List Element) BsonFault) → 0 < length after → fault_of (ended at (after ++ more) read) ≡ fault_of (ended at after read)
end_alike at after more (Err d) lt = refl
end_alike at [] more (Ok es) lt = absurd (omega arith)
end_alike at (zero ∷ bs) more (Ok es) lt = refl
end_alike at (suc b ∷ bs) more (Ok es) lt = refl

body_alike : (R : Reader) (start n : ℕ) (behind more : List ℕ) → 5 ≤ n → n ≤ length behind + 4 → fault_of (body_at R start n (behind ++ more)) ≡ fault_of (body_at R start n behind)
unfolding body_at
body_alike R start n behind more low high =
    let front : take (n - 5) (behind ++ more) ≡ take (n - 5) behind = take-append-le (n - 5) behind more (omega arith) in
    let back : drop (n - 5) (behind ++ more) ≡ drop (n - 5) behind ++ more = drop-append-le (n - 5) behind more (omega arith) in
    rw (front, back) (end_alike start (drop (n - 5) behind) more (elements_at R n start (start + n - 1) (take (n - 5) behind)) (omega (arith, length-drop (n - 5) behind)))

abbrev total_of : List ℕ → ℕ
total_of bytes = little_number 4 (take 4 bytes)

abbrev out_of_range : List ℕ → Bool
out_of_range bytes = ltb (total_of bytes) 5 || ltb 48000000 (total_of bytes)

few : (bytes : List ℕ) → length bytes < 4 → read bytes ≡ Err fault.Short
unfolding read total_at
few bytes lt = rw (lt-ltb (length bytes) 4 lt) refl

bad_total : (bytes : List ℕ) → 4 ≤ length bytes → out_of_range bytes ≡ true → read bytes ≡ Err (fault.Length 0)
unfolding read total_at
bad_total bytes four bad = rw (le-ltb (length bytes) 4 four, bad) refl

cut_short : (bytes : List ℕ) → 4 ≤ length bytes → out_of_range bytes ≡ false → length bytes < total_of bytes → read bytes ≡ Err fault.Short
unfolding read total_at
cut_short bytes four fine lt = rw (le-ltb (length bytes) 4 four, fine, lt-ltb (length bytes) (total_of bytes) lt) refl

whole : (bytes : List ℕ) → 4 ≤ length bytes → out_of_range bytes ≡ false → total_of bytes ≤ length bytes → read bytes ≡ body_at (document_at 99) 0 (total_of bytes) (drop 4 bytes)
unfolding read total_at
whole bytes four fine le = rw (le-ltb (length bytes) 4 four, fine, le-ltb (length bytes) (total_of bytes) le) refl

same_total : (bytes more : List ℕ) → 4 ≤ length bytes → total_of (bytes ++ more) ≡ total_of bytes
same_total bytes more four = ap (little_number 4) (take-append-le 4 bytes more four)

whole_alike : (bytes more : List ℕ) → 4 ≤ length bytes → out_of_range bytes ≡ false → total_of bytes ≤ length bytes → fault_of (read (bytes ++ more)) ≡ fault_of (read bytes)
whole_alike bytes more four fine le =
    let n : ℕ = total_of bytes in
    let same = same_total bytes more four in
    let low : 5 ≤ n = ltb-false n 5 (or_parts (ltb n 5) (ltb 48000000 n) fine).0 in
    let size : length (bytes ++ more) ≡ length bytes + length more = length-append bytes more in
    let longer : read (bytes ++ more) ≡ body_at (document_at 99) 0 (total_of (bytes ++ more)) (drop 4 (bytes ++ more)) =
    whole (bytes ++ more) (omega arith) (ap (λ (k : ℕ). ltb k 5 || ltb 48000000 k) same ∙ fine) (omega (arith, same)) in
    let cut : body_at (document_at 99) 0 (total_of (bytes ++ more)) (drop 4 (bytes ++ more)) ≡ body_at (document_at 99) 0 n (drop 4 bytes ++ more) =
    ap (λ (k : ℕ). body_at (document_at 99) 0 k (drop 4 (bytes ++ more))) same ∙ ap (body_at (document_at 99) 0 n) (drop-append-le 4 bytes more four) in
    ap fault_of (longer ∙ cut) ∙ body_alike (document_at 99) 0 n (drop 4 bytes) more low (omega (arith, length-drop 4 bytes)) ∙ ap fault_of (sym (whole bytes four fine le))

bad_total_alike : (bytes more : List ℕ) → 4 ≤ length bytes → out_of_range bytes ≡ true → fault_of (read (bytes ++ more)) ≡ fault_of (read bytes)
bad_total_alike bytes more four bad =
    let same = same_total bytes more four in
    let longer : read (bytes ++ more) ≡ Err (fault.Length 0) = bad_total (bytes ++ more) (omega (arith, length-append bytes more)) (ap (λ (k : ℕ). ltb k 5 || ltb 48000000 k) same ∙ bad) in
    ap fault_of (longer ∙ sym (bad_total bytes four bad))

pub no_look_ahead : (bytes more : List ℕ) → flaw bytes ≢ Some fault.Short → flaw (bytes ++ more) ≡ flaw bytes
unfolding flaw
no_look_ahead bytes more enough =
    elim (cases_lt (length bytes) 4) [
      | inl lt ↦ absurd (enough (ap fault_of (few bytes lt)))
      | inr four ↦
          elim (cases_Bool (out_of_range bytes)) [
            | inl bad ↦ bad_total_alike bytes more four bad
            | inr fine ↦
                elim (cases_lt (length bytes) (total_of bytes)) [
                  | inl lt ↦ absurd (enough (ap fault_of (cut_short bytes four fine lt)))
                  | inr le ↦ whole_alike bytes more four fine le
                ]
          ]
    ]
