-- The outermost document: what is read of it is spelled so, and what is spelled so is read; and what follows from the two.
use Rattle.std.proofs.Common.{◌≡◌, ℕ, ◌+◌, ◌-◌, ◌≤◌, false, ltb, ◌||◌, List, [], ◌∷◌, ◌++◌, length, take, drop, Some, None, Result, Ok, Err, refl, sym, ap, subst, ◌∙◌, append_assoc, arith}
use Rattle.std.proofs.lemmas.Bool.{ltb-false, le-ltb, or_parts, or_from}
use Rattle.std.proofs.lemmas.List.{take_at, drop_at, take-append-drop, length-append, length-take-le, length-drop, append-nil}
use Rattle.byteorder.specs.Endian.{little_number}
use Rattle.bson_doc.specs.declared.value.Document.{Document}
use Rattle.bson_doc.specs.declared.bson_fault.BsonFault.{BsonFault}
use Rattle.bson_doc.specs.declared.bson_fault.BsonFault.TheVariants as fault
use Rattle.bson_doc.specs.Steps.{fault_of, Fails}
use Rattle.bson_doc.specs.wire.Spelling.{SpellsWithin, Spells}
use Rattle.bson_doc.specs.wire.Reading.{body_at, document_at, total_at, read, flaw}
use Rattle.bson_doc.proofs.Steps.{bind_ok, ok_is, err_or, Fails-Ok, Fails-Err}
use Rattle.bson_doc.proofs.wire.Documents.{body_takes, body_again, document_takes, document_again}

-- what was taken for the outermost document
pub record TakesWhole (bytes : List ℕ) (d : Document) (rest : List ℕ) : Type 0 where
  pub text : List ℕ
  pub parts : bytes ≡ text ++ rest
  pub spells : Spells text d

pub read_takes : (bytes : List ℕ) (x : Document × List ℕ) → read bytes ≡ Ok x → TakesWhole bytes x.0 x.1
unfolding read total_at SpellsWithin
read_takes bytes x e =
    let n : ℕ = little_number 4 (take 4 bytes) in
    let read_on = bind_ok (total_at bytes) (λ k. body_at (document_at 99) 0 k (drop 4 bytes)) x e in
    let a = err_or (ltb (length bytes) 4) _ _ read_on.0 read_on.1 in
    let b = err_or (ltb n 5 || ltb 48000000 n) _ _ read_on.0 a.1 in
    let c = err_or (ltb (length bytes) n) _ _ read_on.0 b.1 in
    let is_total : n ≡ read_on.0 = ok_is n read_on.0 c.1 in
    let inside : body_at (document_at 99) 0 n (drop 4 bytes) ≡ Ok x = ap (λ (k : ℕ). body_at (document_at 99) 0 k (drop 4 bytes)) is_total ∙ read_on.2 in
    let tests = or_parts (ltb n 5) (ltb 48000000 n) b.0 in
    let four : 4 ≤ length bytes = ltb-false _ _ a.0 in
    let low : 5 ≤ n = ltb-false _ _ tests.0 in
    let small : n ≤ 48000000 = ltb-false _ _ tests.1 in
    let there : n ≤ length bytes = ltb-false _ _ c.0 in
    let number : List ℕ = take 4 bytes in
    let behind : List ℕ = drop 4 bytes in
    let size : length number ≡ 4 = length-take-le 4 bytes four in
    let high : n ≤ length behind + 4 = omega (arith, length-drop 4 bytes) in
    let t = body_takes (document_at 99) (SpellsWithin 99) (document_takes 99) 0 n behind x low high inside in
    let text : List ℕ = number ++ (t.body ++ 0 ∷ []) in
    let parts : bytes ≡ text ++ x.1 =
    sym (take-append-drop 4 bytes) ∙ ap (λ (xs : List ℕ). number ++ xs) (t.parts ∙ sym (append_assoc t.body (0 ∷ []) x.1)) ∙ sym (append_assoc number (t.body ++ 0 ∷ []) x.1) in
    let total : length text ≡ n = omega (arith, length-append number (t.body ++ 0 ∷ []), length-append t.body (0 ∷ []), size, t.count) in
    record {
      text = text;
      parts = parts;
      spells = record {
        within = record { number = number; body = t.body; counts = record { size = size; reads = sym t.count }; parts = refl; elements = t.elements };
        size = omega (arith, total);
      };
    }

pub read_again : (text more : List ℕ) (d : Document) → Spells text d → read (text ++ more) ≡ Ok (d, more)
unfolding read total_at SpellsWithin
read_again text more d spells =
    let h = spells.within in
    let n : ℕ = length h.body + 5 in
    let behind : List ℕ = h.body ++ 0 ∷ more in
    let all : List ℕ = h.number ++ behind in
    let regrouped : text ++ more ≡ all =
    ap (λ (xs : List ℕ). xs ++ more) h.parts ∙ append_assoc h.number (h.body ++ 0 ∷ []) more ∙ ap (λ (xs : List ℕ). h.number ++ xs) (append_assoc h.body (0 ∷ []) more) in
    let count : length all ≡ 4 + length h.body + 1 + length more = omega (arith, length-append h.number behind, length-append h.body (0 ∷ more), h.counts.size) in
    let total : length text ≡ n = omega (arith, ap length h.parts, length-append h.number (h.body ++ 0 ∷ []), length-append h.body (0 ∷ []), h.counts.size) in
    let small : n ≤ 48000000 = omega (arith, total, spells.size) in
    let front : take 4 all ≡ h.number = take_at h.number behind 4 h.counts.size in
    let back : drop 4 all ≡ behind = drop_at h.number behind 4 h.counts.size in
    let four : ltb (length all) 4 ≡ false = le-ltb _ _ (omega (arith, count)) in
    let range : (ltb n 5 || ltb 48000000 n) ≡ false = or_from _ _ (le-ltb n 5 (omega arith)) (le-ltb 48000000 n small) in
    let there : ltb (length all) n ≡ false = le-ltb _ _ (omega (arith, count)) in
    ap read regrouped ∙ rw (four, front, h.counts.reads, range, there, back) (body_again (document_at 99) (SpellsWithin 99) (document_again 99) 0 h.body more d h.elements)

-- ---- what decode says

pub is_found : (bytes : List ℕ) (d : Document) (rest : List ℕ) → read bytes ≡ Ok (d, rest) → (length bytes - length rest ≤ length bytes) × Spells (take (length bytes - length rest) bytes) d
is_found bytes d rest e =
    let t = read_takes bytes (d, rest) e in
    let count : length bytes - length rest ≡ length t.text = omega (arith, ap length t.parts, length-append t.text rest) in
    let front : take (length bytes - length rest) bytes ≡ t.text =
    ap (λ (n : ℕ). take n bytes) count ∙ ap (λ (xs : List ℕ). take (length t.text) xs) t.parts ∙ take_at t.text rest (length t.text) refl in
    (omega arith, subst (λ (xs : List ℕ). Spells xs d) (sym front) t.spells)

pub is_only : (bytes : List ℕ) (d : Document) (rest text more : List ℕ) (document : Document) → read bytes ≡ Ok (d, rest) → bytes ≡ text ++ more → Spells text document → ◌≡◌ {A = Document × ℕ} (d, length bytes - length rest) (document, length text)
is_only bytes d rest text more document e parts spells =
    let same : ◌≡◌ {A = Document × List ℕ} (d, rest) (document, more) = ok_is (d, rest) (document, more) (sym e ∙ ap read parts ∙ read_again text more document spells) in
    let count : length bytes - length rest ≡ length text = omega (arith, ap length (ap (λ (p : Document × List ℕ). p.1) same), ap length parts, length-append text more) in
    ap (λ (x : Document). (x, length bytes - length rest)) (ap (λ (p : Document × List ℕ). p.0) same) ∙ ap (λ (n : ℕ). (document, n)) count

pub is_sound : (bytes : List ℕ) (x : Document × List ℕ) → read bytes ≡ Ok x → flaw bytes ≡ None
unfolding flaw
is_sound bytes x e = ap fault_of e

pub is_memory : (e : BsonFault) (bytes text more : List ℕ) (d : Document) → Fails fault.Memory e (read bytes) → bytes ≡ text ++ more → Spells text d → e ≡ fault.Memory
is_memory e bytes text more d fails parts spells = Fails-Ok fault.Memory e (read bytes) (d, more) fails (ap read parts ∙ read_again text more d spells)

pub is_flaw : (e : BsonFault) (bytes : List ℕ) → Fails fault.Memory e (read bytes) → (e ≡ fault.Memory → ⊥) → flaw bytes ≡ Some e
unfolding flaw
is_flaw e bytes fails other = ap fault_of (Fails-Err fault.Memory e (read bytes) fails other)

-- what the total says is told of all
pub is_front : (bytes : List ℕ) (e : BsonFault) → total_at bytes ≡ Err e → read bytes ≡ Err e
unfolding read
is_front bytes e h = rw h refl

-- ---- the laws

pub one_document : (bytes : List ℕ) (a b : Document) → Spells bytes a → Spells bytes b → a ≡ b
one_document bytes a b x y =
    let same : ◌≡◌ {A = Document × List ℕ} (a, []) (b, []) = ok_is {A = Document × List ℕ} (a, []) (b, []) (sym (read_again bytes [] a x) ∙ read_again bytes [] b y) in
    ap (λ (p : Document × List ℕ). p.0) same

pub no_prefix : (bytes more : List ℕ) (a b : Document) → Spells bytes a → Spells (bytes ++ more) b → more ≡ []
no_prefix bytes more a b x y =
    let longer : read (bytes ++ (more ++ [])) ≡ Ok (b, []) = ap read (sym (append_assoc bytes more [])) ∙ read_again (bytes ++ more) [] b y in
    let same : ◌≡◌ {A = Document × List ℕ} (a, more ++ []) (b, []) = ok_is {A = Document × List ℕ} (a, more ++ []) (b, []) (sym (read_again bytes (more ++ []) a x) ∙ longer) in
    sym (append-nil more) ∙ ap (λ (p : Document × List ℕ). p.1) same

no_fault : {A : Type 0} (r : Result A BsonFault) → fault_of r ≡ None → (x : A) × (r ≡ Ok x)
no_fault (Ok x) e = (x, refl)
no_fault (Err f) e = absurd cc

pub has_spelling : (bytes : List ℕ) → flaw bytes ≡ None → (n : ℕ) × (document : Document) × Spells (take n bytes) document
unfolding flaw
has_spelling bytes e =
    let x = no_fault (read bytes) e in
    (length bytes - length x.0.1, x.0.0, (is_found bytes x.0.0 x.0.1 x.1).1)

pub has_no_flaw : (bytes : List ℕ) → (n : ℕ) × (document : Document) × Spells (take n bytes) document → flaw bytes ≡ None
has_no_flaw bytes h = is_sound bytes (h.1, drop h.0 bytes) (ap read (sym (take-append-drop h.0 bytes)) ∙ read_again (take h.0 bytes) (drop h.0 bytes) h.1 h.2)
