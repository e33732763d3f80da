-- What each reading's fault says of all the bytes.
use Rattle.std.proofs.Common.{◌≡◌, ℕ, zero, suc, ◌+◌, ◌-◌, ◌<◌, ◌≤◌, Bool, true, false, cond, ltb, eqb, ◌||◌, List, [], ◌∷◌, ◌++◌, length, take, drop, Option, Some, None, Result, Ok, Err, IfErr, refl, sym, ap, subst, ◌∙◌, append_assoc, arith, inl, inr}
use Rattle.std.specs.List.{slice_get}
use Rattle.std.specs.Str.{is_utf8}
use Rattle.std.specs.Str.Lossy.{utf8_valid_len}
use Rattle.std.proofs.lemmas.Bool.{ltb-false, ltb-true, or_parts, eq-eqb}
use Rattle.std.proofs.lemmas.List.{take_at, take-append-drop, take-take, length-append, length-take-le, length-drop}
use Rattle.std.proofs.lemmas.Str.{utf8_valid_len_le}
use Rattle.byteorder.specs.Endian.{little_number}
use Rattle.bson_doc.specs.declared.value.Document.{Document}
use Rattle.bson_doc.specs.declared.bson_fault.BsonFault.{BsonFault}
use Rattle.bson_doc.specs.declared.bson_fault.BsonFault.TheVariants as fault
use Rattle.bson_doc.specs.declared.kind.Kind.{Kind}
use Rattle.bson_doc.specs.declared.kind.Kind.TheVariants as kinds
use Rattle.bson_doc.specs.declared.kind.PlainKind.{PlainKind}
use Rattle.bson_doc.specs.declared.kind.PlainKind.TheVariants as plain
use Rattle.bson_doc.specs.Steps.{◌>>=◌, or_fault}
use Rattle.bson_doc.specs.wire.Kinds.{kind_of_byte}
use Rattle.bson_doc.specs.wire.Meaning.{Means, StandsAt}
use Rattle.bson_doc.specs.wire.Spelling.{SpellsWithin}
use Rattle.bson_doc.specs.wire.Reading.{bytes_at, byte_at, until_zero, behind_zero, text_at, name_at, length_at, string_at, bool_at, binary_at, regex_at, pointer_at, plain_at, no_more, inside_scope_at, scope_at, unnamed_document, value_at, no_kind, kind_at, element_at, elements_at, body_at, document_at, total_at, read, flaw}
use Rattle.bson_doc.proofs.Steps.{IfErr-cond, ok_is, or_fault-Ok, err_or, err_from_fault}
use Rattle.bson_doc.proofs.wire.Texts.{until_zero-Some}
use Rattle.bson_doc.proofs.wire.Fields.{name_takes, string_takes, length_takes}
use Rattle.bson_doc.proofs.wire.Documents.{Reader, TakesAll, element_takes, document_takes}

-- ---- steps

-- the fault of a step, or of what follows it
step : {A B : Type 0} (P : BsonFault → Type 0) (r : Result A BsonFault) (f : A → Result B BsonFault) → IfErr r P → ((x : A) → r ≡ Ok x → IfErr (f x) P) → IfErr (r >>= f) P
step P (Ok x) f first rest = rest x refl
step P (Err e) f first rest = first

-- of a step that only changes what was read
last : {A B : Type 0} (P : BsonFault → Type 0) (r : Result A BsonFault) (g : A → B) → IfErr r P → IfErr (r >>= (λ x. Ok (g x))) P
last P (Ok x) g first = tt
last P (Err e) g first = first

or_fault-means : {A : Type 0} (P : BsonFault → Type 0) (f : BsonFault) (o : Option A) → (o ≡ None → P f) → IfErr (or_fault f o) P
or_fault-means P f None h = h refl
or_fault-means P f (Some x) h = tt

test : {A : Type 0} (P : BsonFault → Type 0) (b : Bool) (e : BsonFault) (r : Result A BsonFault) → (b ≡ true → P e) → (b ≡ false → IfErr r P) → IfErr (cond b (Err e) r) P
test P true e r failed passed = failed refl
test P false e r failed passed = passed refl

-- ---- where the bytes that are read stand

-- The bytes end at the place `end` of all, at which one more byte stands.
record Stands (all : List ℕ) (end : ℕ) (bytes : List ℕ) : Type 0 where
  front : List ℕ
  parts : take end all ≡ front ++ bytes
  inside : end < length all

-- how many bytes stand in front of them
stands-count : (all : List ℕ) (end : ℕ) (bytes : List ℕ) (s : Stands all end bytes) → length s.front + length bytes ≡ end
stands-count all end bytes s =
    let le : end ≤ length all = omega (arith, s.inside) in
    omega (arith, length-take-le end all le, ap length s.parts, length-append s.front bytes)

stands-place : (all : List ℕ) (end : ℕ) (bytes : List ℕ) → Stands all end bytes → end - length bytes < length all
stands-place all end bytes s = omega (arith, s.inside)

stands-rest : (all : List ℕ) (end : ℕ) (bytes text rest : List ℕ) → Stands all end bytes → bytes ≡ text ++ rest → Stands all end rest
stands-rest all end bytes text rest s e = record {
  front = s.front ++ text;
  parts = s.parts ∙ ap (λ (xs : List ℕ). s.front ++ xs) e ∙ sym (append_assoc s.front text rest);
  inside = s.inside;
}

-- some of them from the first on
stands-take : (all : List ℕ) (end k inner : ℕ) (bytes : List ℕ) → Stands all end bytes → k ≤ length bytes → end ≡ length bytes - k + inner → Stands all inner (take k bytes)
stands-take all end k inner bytes s le e =
    let count = stands-count all end bytes s in
    let front_count : inner ≡ length s.front + k = omega (arith, count, e, le) in
    let low : inner ≤ end = omega (arith, count, front_count, le) in
    let front_le : inner ≤ length (s.front ++ take k bytes) = omega (arith, length-append s.front (take k bytes), length-take-le k bytes le, front_count) in
    let again : (s.front ++ take k bytes) ++ drop k bytes ≡ s.front ++ bytes =
    append_assoc s.front (take k bytes) (drop k bytes) ∙ ap (λ (xs : List ℕ). s.front ++ xs) (take-append-drop k bytes) in
    record {
      front = s.front;
      parts = sym (take-take inner end all low) ∙ ap (take inner) (s.parts ∙ sym again) ∙ take_at (s.front ++ take k bytes) (drop k bytes) inner (omega (arith, length-append s.front (take k bytes), length-take-le k bytes le, front_count));
      inside = omega (arith, low, s.inside);
    }

slice_get-behind : (front : List ℕ) (b : ℕ) (rest : List ℕ) → slice_get (front ++ b ∷ rest) (length front) ≡ Some b
slice_get-behind [] b rest = refl
slice_get-behind (x ∷ xs) b rest = slice_get-behind xs b rest

-- the first of them stands at its place
stands-first : (all : List ℕ) (end byte at : ℕ) (bytes : List ℕ) → Stands all end (byte ∷ bytes) → at + length bytes + 1 ≡ end → StandsAt all at byte
stands-first all end byte at bytes s e =
    let count = stands-count all end (byte ∷ bytes) s in
    let place : length s.front ≡ at = omega (arith, count, e) in
    let whole : s.front ++ byte ∷ (bytes ++ drop end all) ≡ all =
    sym (append_assoc s.front (byte ∷ bytes) (drop end all)) ∙ ap (λ (xs : List ℕ). xs ++ drop end all) (sym s.parts) ∙ take-append-drop end all in
    subst (λ (k : ℕ). slice_get all k ≡ Some byte) place (subst (λ (xs : List ℕ). slice_get xs (length s.front) ≡ Some byte) whole (slice_get-behind s.front byte (bytes ++ drop end all)))

-- ---- parts

bytes_at-means : (all : List ℕ) (at n : ℕ) (bytes : List ℕ) → at < length all → IfErr (bytes_at at n bytes) (Means all)
bytes_at-means all at n bytes lt = test (Means all) (ltb (length bytes) n) (fault.Length at) (Ok (take n bytes, drop n bytes)) (λ e. lt) (λ e. tt)

byte_at-means : (all : List ℕ) (at : ℕ) (bytes : List ℕ) → at < length all → IfErr (byte_at at bytes) (Means all)
byte_at-means all at [] lt = lt
byte_at-means all at (b ∷ bs) lt = tt

behind_zero-means : (all : List ℕ) (at : ℕ) (bytes : List ℕ) → at < length all → IfErr (behind_zero at bytes) (Means all)
behind_zero-means all at [] lt = lt
behind_zero-means all at (zero ∷ bs) lt = tt
behind_zero-means all at (suc b ∷ bs) lt = lt

no_more-means : (all : List ℕ) (at : ℕ) (bytes : List ℕ) → at < length all → IfErr (no_more at bytes) (Means all)
no_more-means all at [] lt = tt
no_more-means all at (b ∷ bs) lt = lt

text_at-means : (all : List ℕ) (at : ℕ) (bytes : List ℕ) → at + length bytes < length all → IfErr (text_at at bytes) (Means all)
unfolding text_at
text_at-means all at bytes lt =
    let inside : at + utf8_valid_len bytes < length all = omega (arith, utf8_valid_len_le bytes) in
    IfErr-cond (Means all) (is_utf8 bytes) (Ok bytes) (Err (fault.Utf8 (at + utf8_valid_len bytes))) tt inside

name_at-means : (all : List ℕ) (start end : ℕ) (bytes : List ℕ) → start < length all → Stands all end bytes → IfErr (name_at start end bytes) (Means all)
unfolding name_at
name_at-means all start end bytes lt s =
    step (Means all) (or_fault (fault.Length start) (until_zero bytes)) _ (or_fault-means (Means all) (fault.Length start) (until_zero bytes) (λ e. lt)) (λ parts e.
    let cut = until_zero-Some bytes parts (or_fault-Ok _ _ parts e) in
    let size : length bytes ≡ length parts.0 + length parts.1 + 1 = omega (arith, ap length cut.0, length-append parts.0 (0 ∷ parts.1)) in
    let count = stands-count all end bytes s in
    last (Means all) (text_at (end - length bytes) parts.0) (λ name. (name, parts.1)) (text_at-means all (end - length bytes) parts.0 (omega (arith, size, count, s.inside))))

length_at-means : (all : List ℕ) (least own end : ℕ) (bytes : List ℕ) → Stands all end bytes → IfErr (length_at least own end bytes) (Means all)
unfolding length_at
length_at-means all least own end bytes s =
    let place = stands-place all end bytes s in
    step (Means all) (bytes_at (end - length bytes) 4 bytes) _ (bytes_at-means all (end - length bytes) 4 bytes place) (λ number e.
    test (Means all) (ltb (little_number 4 number.0) least || ltb (length number.1 + own) (little_number 4 number.0)) (fault.Length (end - length bytes)) (Ok (little_number 4 number.0, number.1)) (λ failed. place) (λ passed. tt))

string_at-means : (all : List ℕ) (end : ℕ) (bytes : List ℕ) → Stands all end bytes → IfErr (string_at end bytes) (Means all)
unfolding string_at
string_at-means all end bytes s =
    step (Means all) (length_at 1 0 end bytes) _ (length_at-means all 1 0 end bytes s) (λ n e.
    let l = length_takes 1 0 end bytes n e in
    let behind = stands-rest all end bytes l.number n.1 s l.parts in
    let count = stands-count all end n.1 behind in
    step (Means all) (behind_zero (end - length bytes) (drop (n.0 - 1) n.1)) _ (behind_zero-means all (end - length bytes) (drop (n.0 - 1) n.1) (stands-place all end bytes s)) (λ rest e2.
    last (Means all) (text_at (end - length n.1) (take (n.0 - 1) n.1)) (λ text. (text, rest)) (text_at-means all (end - length n.1) (take (n.0 - 1) n.1) (omega (arith, length-take-le (n.0 - 1) n.1 (omega (arith, l.high)), l.low, l.high, count, s.inside)))))

bool_at-means : (all : List ℕ) (start end : ℕ) (bytes : List ℕ) → start < length all → Stands all end bytes → IfErr (bool_at start end bytes) (Means all)
unfolding bool_at
bool_at-means all start end [] lt s = lt
bool_at-means all start end (zero ∷ rest) lt s = tt
bool_at-means all start end (suc zero ∷ rest) lt s = tt
bool_at-means all start end (suc (suc b) ∷ rest) lt s =
    let count = stands-count all end (suc (suc b) ∷ rest) s in
    (stands-first all end (suc (suc b)) (end - length (suc (suc b) ∷ rest)) rest s (omega (arith, count)), omega arith)

binary_at-means : (all : List ℕ) (end : ℕ) (bytes : List ℕ) → Stands all end bytes → IfErr (binary_at end bytes) (Means all)
unfolding binary_at
binary_at-means all end bytes s =
    let place = stands-place all end bytes s in
    step (Means all) (length_at 0 0 end bytes) _ (length_at-means all 0 0 end bytes s) (λ n e.
    step (Means all) (byte_at (end - length bytes) n.1) _ (byte_at-means all (end - length bytes) n.1 place) (λ subtype e2.
    last (Means all) (bytes_at (end - length bytes) n.0 subtype.1) (λ held. ((subtype.0, held.0), held.1)) (bytes_at-means all (end - length bytes) n.0 subtype.1 place)))

regex_at-means : (all : List ℕ) (start end : ℕ) (bytes : List ℕ) → start < length all → Stands all end bytes → IfErr (regex_at start end bytes) (Means all)
unfolding regex_at
regex_at-means all start end bytes lt s =
    step (Means all) (name_at start end bytes) _ (name_at-means all start end bytes lt s) (λ pattern e.
    let t = name_takes start end bytes pattern e in
    let behind = stands-rest all end bytes (pattern.0 ++ 0 ∷ []) pattern.1 s (t.0 ∙ sym (append_assoc pattern.0 (0 ∷ []) pattern.1)) in
    last (Means all) (name_at start end pattern.1) (λ options. ((pattern.0, options.0), options.1)) (name_at-means all start end pattern.1 lt behind))

pointer_at-means : (all : List ℕ) (start end : ℕ) (bytes : List ℕ) → start < length all → Stands all end bytes → IfErr (pointer_at start end bytes) (Means all)
unfolding pointer_at
pointer_at-means all start end bytes lt s =
    step (Means all) (string_at end bytes) _ (string_at-means all end bytes s) (λ space e.
    last (Means all) (bytes_at start 12 space.1) (λ id. ((space.0, id.0), id.1)) (bytes_at-means all start 12 space.1 lt))

plain_at-means : (all : List ℕ) (start end : ℕ) (kind : PlainKind) (bytes : List ℕ) → start < length all → Stands all end bytes → IfErr (plain_at start end kind bytes) (Means all)
unfolding plain_at
plain_at-means all start end plain.Double bytes lt s = last (Means all) (bytes_at start 8 bytes) _ (bytes_at-means all start 8 bytes lt)
plain_at-means all start end plain.Str bytes lt s = last (Means all) (string_at end bytes) _ (string_at-means all end bytes s)
plain_at-means all start end plain.Binary bytes lt s = last (Means all) (binary_at end bytes) _ (binary_at-means all end bytes s)
plain_at-means all start end plain.Undefined bytes lt s = tt
plain_at-means all start end plain.Oid bytes lt s = last (Means all) (bytes_at start 12 bytes) _ (bytes_at-means all start 12 bytes lt)
plain_at-means all start end plain.Bool bytes lt s = bool_at-means all start end bytes lt s
plain_at-means all start end plain.Date bytes lt s = last (Means all) (bytes_at start 8 bytes) _ (bytes_at-means all start 8 bytes lt)
plain_at-means all start end plain.Null bytes lt s = tt
plain_at-means all start end plain.Regex bytes lt s = last (Means all) (regex_at start end bytes) _ (regex_at-means all start end bytes lt s)
plain_at-means all start end plain.DbPointer bytes lt s = last (Means all) (pointer_at start end bytes) _ (pointer_at-means all start end bytes lt s)
plain_at-means all start end plain.Code bytes lt s = last (Means all) (string_at end bytes) _ (string_at-means all end bytes s)
plain_at-means all start end plain.Symbol bytes lt s = last (Means all) (string_at end bytes) _ (string_at-means all end bytes s)
plain_at-means all start end plain.Int32 bytes lt s = last (Means all) (bytes_at start 4 bytes) _ (bytes_at-means all start 4 bytes lt)
plain_at-means all start end plain.Stamp bytes lt s = last (Means all) (bytes_at start 8 bytes) _ (bytes_at-means all start 8 bytes lt)
plain_at-means all start end plain.Int64 bytes lt s = last (Means all) (bytes_at start 8 bytes) _ (bytes_at-means all start 8 bytes lt)
plain_at-means all start end plain.Decimal bytes lt s = last (Means all) (bytes_at start 16 bytes) _ (bytes_at-means all start 16 bytes lt)
plain_at-means all start end plain.Min bytes lt s = tt
plain_at-means all start end plain.Max bytes lt s = tt

-- ---- values

-- what is known of the faults of a reader of documents
abbrev MeansAll : List ℕ → Reader → Type 0
MeansAll all R = (end : ℕ) (bytes : List ℕ) → Stands all end bytes → IfErr (R end bytes) (Means all)

inside_scope_at-means : (all : List ℕ) (R : Reader) → MeansAll all R → (at end : ℕ) (bytes : List ℕ) → at < length all → Stands all end bytes → IfErr (inside_scope_at R at end bytes) (Means all)
unfolding inside_scope_at
inside_scope_at-means all R means at end bytes lt s =
    step (Means all) (string_at end bytes) _ (string_at-means all end bytes s) (λ code e.
    let t = string_takes end bytes code e in
    step (Means all) (R end code.1) _ (means end code.1 (stands-rest all end bytes t.spelling code.1 s t.parts)) (λ scope e2.
    last (Means all) (no_more at scope.1) (λ left. (code.0, scope.0)) (no_more-means all at scope.1 lt)))

scope_at-means : (all : List ℕ) (R : Reader) → MeansAll all R → (end : ℕ) (bytes : List ℕ) → Stands all end bytes → IfErr (scope_at R end bytes) (Means all)
unfolding scope_at
scope_at-means all R means end bytes s =
    let place = stands-place all end bytes s in
    step (Means all) (length_at 14 4 end bytes) _ (length_at-means all 14 4 end bytes s) (λ n e.
    let l = length_takes 14 4 end bytes n e in
    let behind = stands-rest all end bytes l.number n.1 s l.parts in
    let size : length bytes ≡ 4 + length n.1 = omega (arith, ap length l.parts, length-append l.number n.1, l.counts.size) in
    let count = stands-count all end bytes s in
    let inside = stands-take all end (n.0 - 4) (end - length bytes + n.0) n.1 behind (omega (arith, l.high)) (omega (arith, size, count, l.low, l.high)) in
    last (Means all) (inside_scope_at R (end - length bytes) (end - length bytes + n.0) (take (n.0 - 4) n.1)) (λ parts. (parts, drop (n.0 - 4) n.1)) (inside_scope_at-means all R means (end - length bytes) (end - length bytes + n.0) (take (n.0 - 4) n.1) place inside))

value_at-means : (all : List ℕ) (R : Reader) → MeansAll all R → (start end : ℕ) (kind : Kind) (bytes : List ℕ) → start < length all → Stands all end bytes → IfErr (value_at R start end kind bytes) (Means all)
unfolding value_at
value_at-means all R means start end kinds.Doc bytes lt s = last (Means all) (R end bytes) _ (means end bytes s)
value_at-means all R means start end kinds.Array bytes lt s = last (Means all) (unnamed_document (R end bytes)) _ (last (Means all) (R end bytes) _ (means end bytes s))
value_at-means all R means start end kinds.Scope bytes lt s = last (Means all) (scope_at R end bytes) _ (scope_at-means all R means end bytes s)
value_at-means all R means start end (kinds.Plain kind) bytes lt s = plain_at-means all start end kind bytes lt s

no_kind-means : (all : List ℕ) (start at byte : ℕ) (b : Bool) → start < length all → StandsAt all at byte → kind_of_byte byte ≡ None → eqb byte 0 ≡ b → Means all (cond b (fault.Length start) (fault.Kind at byte))
no_kind-means all start at byte true lt is none e = lt
no_kind-means all start at byte false lt is none e = (is, none, λ same. absurd (let zero_test : eqb byte 0 ≡ true = eq-eqb byte 0 same in cc))

kind_at-means : (all : List ℕ) (start at byte : ℕ) → start < length all → StandsAt all at byte → IfErr (kind_at start at byte) (Means all)
kind_at-means all start at byte lt is =
    or_fault-means (Means all) (no_kind start at byte) (kind_of_byte byte) (λ none. no_kind-means all start at byte (eqb byte 0) lt is none refl)

element_at-means : (all : List ℕ) (R : Reader) → MeansAll all R → (start end byte : ℕ) (bytes : List ℕ) → start < length all → Stands all end (byte ∷ bytes) → IfErr (element_at R start end byte bytes) (Means all)
unfolding element_at
element_at-means all R means start end byte bytes lt s =
    let count = stands-count all end (byte ∷ bytes) s in
    let is = stands-first all end byte (end - length bytes - 1) bytes s (omega (arith, count)) in
    let behind = stands-rest all end (byte ∷ bytes) (byte ∷ []) bytes s refl in
    step (Means all) (kind_at start (end - length bytes - 1) byte) _ (kind_at-means all start (end - length bytes - 1) byte lt is) (λ kind e.
    step (Means all) (name_at start end bytes) _ (name_at-means all start end bytes lt behind) (λ name e2.
    let t = name_takes start end bytes name e2 in
    let rest = stands-rest all end bytes (name.0 ++ 0 ∷ []) name.1 behind (t.0 ∙ sym (append_assoc name.0 (0 ∷ []) name.1)) in
    last (Means all) (value_at R start end kind name.1) (λ x. ((name.0, x.0), x.1)) (value_at-means all R means start end kind name.1 lt rest)))

elements_at-means : (all : List ℕ) (R : Reader) (Inner : List ℕ → Document → Type 0) → TakesAll R Inner → MeansAll all R → (fuel start end : ℕ) (bytes : List ℕ) → length bytes ≤ fuel → start < length all → Stands all end bytes → IfErr (elements_at R fuel start end bytes) (Means all)
unfolding elements_at
elements_at-means all R Inner takes means zero start end [] le lt s = tt
elements_at-means all R Inner takes means zero start end (byte ∷ bytes) le lt s = absurd (omega arith)
elements_at-means all R Inner takes means (suc fuel) start end [] le lt s = tt
elements_at-means all R Inner takes means (suc fuel) start end (byte ∷ bytes) le lt s =
    step (Means all) (element_at R start end byte bytes) _ (element_at-means all R means start end byte bytes lt s) (λ first e.
    let t = element_takes R Inner takes start end byte bytes first e in
    let rest = stands-rest all end (byte ∷ bytes) t.text first.1 s t.parts in
    let shorter : length first.1 ≤ fuel = omega (arith, ap length t.parts, length-append t.text first.1, ap length t.is.parts) in
    last (Means all) (elements_at R fuel start end first.1) (λ others. first.0 ∷ others) (elements_at-means all R Inner takes means fuel start end first.1 shorter lt rest))

-- ---- documents

body_at-means : (all : List ℕ) (R : Reader) (Inner : List ℕ → Document → Type 0) → TakesAll R Inner → MeansAll all R → (start n : ℕ) (bytes : List ℕ) → start < length all → 5 ≤ n → n ≤ length bytes + 4 → Stands all (start + n - 1) (take (n - 5) bytes) → IfErr (body_at R start n bytes) (Means all)
unfolding body_at
body_at-means all R Inner takes means start n bytes lt low high s =
    step (Means all) (elements_at R n start (start + n - 1) (take (n - 5) bytes)) _ (elements_at-means all R Inner takes means n start (start + n - 1) (take (n - 5) bytes) (omega (arith, length-take-le (n - 5) bytes (omega arith))) lt s) (λ elements e.
    last (Means all) (behind_zero start (drop (n - 5) bytes)) _ (behind_zero-means all start (drop (n - 5) bytes) lt))

document_at-means : (all : List ℕ) (levels : ℕ) → MeansAll all (document_at levels)
unfolding document_at
document_at-means all zero end bytes s = stands-place all end bytes s
document_at-means all (suc levels) end bytes s =
    let place = stands-place all end bytes s in
    step (Means all) (length_at 5 4 end bytes) _ (length_at-means all 5 4 end bytes s) (λ n e.
    let l = length_takes 5 4 end bytes n e in
    let behind = stands-rest all end bytes l.number n.1 s l.parts in
    let size : length bytes ≡ 4 + length n.1 = omega (arith, ap length l.parts, length-append l.number n.1, l.counts.size) in
    let count = stands-count all end bytes s in
    let inside = stands-take all end (n.0 - 5) (end - length bytes + n.0 - 1) n.1 behind (omega (arith, l.high)) (omega (arith, size, count, l.low, l.high)) in
    body_at-means all (document_at levels) (SpellsWithin levels) (document_takes levels) (document_at-means all levels) (end - length bytes) n.0 n.1 place l.low l.high inside)

-- ---- the outermost document

total_at-means : (all : List ℕ) → IfErr (total_at all) (Means all)
unfolding total_at
total_at-means all =
    let n : ℕ = little_number 4 (take 4 all) in
    test (Means all) (ltb (length all) 4) fault.Short _ (λ e. inl (ltb-true (length all) 4 e)) (λ four.
    let there : 4 ≤ length all = ltb-false (length all) 4 four in
    test (Means all) (ltb n 5 || ltb 48000000 n) (fault.Length 0) _ (λ e. omega (arith, there)) (λ fine.
    let range = or_parts (ltb n 5) (ltb 48000000 n) fine in
    test (Means all) (ltb (length all) n) fault.Short (Ok n) (λ e. inr (record { least = ltb-false n 5 range.0; most = ltb-false 48000000 n range.1; missing = ltb-true (length all) n e })) (λ e. tt)))

-- what is known of a total that was read
pub record IsTotal (all : List ℕ) (n : ℕ) : Type 0 where
  pub four : 4 ≤ length all
  pub least : 5 ≤ n
  pub most : n ≤ 48000000
  pub there : n ≤ length all

pub total_at-Ok : (all : List ℕ) (n : ℕ) → total_at all ≡ Ok n → IsTotal all n
unfolding total_at
total_at-Ok all n e =
    let k : ℕ = little_number 4 (take 4 all) in
    let a = err_or (ltb (length all) 4) _ _ n e in
    let b = err_or (ltb k 5 || ltb 48000000 k) _ _ n a.1 in
    let c = err_or (ltb (length all) k) _ _ n b.1 in
    let range = or_parts (ltb k 5) (ltb 48000000 k) b.0 in
    subst (IsTotal all) (ok_is k n c.1) (record { four = ltb-false _ _ a.0; least = ltb-false _ _ range.0; most = ltb-false _ _ range.1; there = ltb-false _ _ c.0 })

take_front : (all : List ℕ) (n : ℕ) → 5 ≤ n → n ≤ length all → take (0 + n - 1) all ≡ take 4 all ++ take (n - 5) (drop 4 all)
take_front all n low high =
    let number : List ℕ = take 4 all in
    let behind : List ℕ = drop 4 all in
    let k : ℕ = n - 5 in
    let size : length number ≡ 4 = length-take-le 4 all (omega arith) in
    let room : k ≤ length behind = omega (arith, length-drop 4 all) in
    let regrouped : (number ++ take k behind) ++ drop k behind ≡ all =
    append_assoc number (take k behind) (drop k behind) ∙ ap (λ (xs : List ℕ). number ++ xs) (take-append-drop k behind) ∙ take-append-drop 4 all in
    ap (take (0 + n - 1)) (sym regrouped) ∙ take_at (number ++ take k behind) (drop k behind) (0 + n - 1) (omega (arith, length-append number (take k behind), size, length-take-le k behind room))

read-means : (all : List ℕ) → IfErr (read all) (Means all)
unfolding read
read-means all =
    step (Means all) (total_at all) _ (total_at-means all) (λ n e.
    let is = total_at-Ok all n e in
    let size : length (drop 4 all) + 4 ≡ length all = omega (arith, length-drop 4 all, is.four) in
    let front : take (0 + n - 1) all ≡ take 4 all ++ take (n - 5) (drop 4 all) = take_front all n is.least is.there in
    body_at-means all (document_at 99) (SpellsWithin 99) (document_takes 99) (document_at-means all 99) 0 n (drop 4 all) (omega (arith, is.four)) is.least (omega (arith, size, is.there))
    (record { front = take 4 all; parts = front; inside = omega (arith, is.least, is.there) }))

pub meaning : (bytes : List ℕ) (e : BsonFault) → flaw bytes ≡ Some e → Means bytes e
unfolding flaw
meaning bytes e h = subst (λ (r : Result (Document × List ℕ) BsonFault). IfErr r (Means bytes)) (err_from_fault (read bytes) e h) (read-means bytes)
