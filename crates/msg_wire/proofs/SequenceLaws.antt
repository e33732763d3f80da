-- A section of kind 1: what is read is one, and one is read, whatever follows.
use Rattle.std.proofs.Common.{◌≡◌, ℕ, ◌+◌, ◌-◌, ◌≤◌, false, ltb, ◌||◌, List, [], ◌∷◌, ◌++◌, length, take, drop, Ok, refl, sym, ap, subst, ◌∙◌, append_assoc, arith, length-append}
use Rattle.std.proofs.lemmas.Bool.{ltb-false, le-ltb, or_parts, or_from}
use Rattle.std.proofs.lemmas.List.{take_at, drop_at, take-append-drop, length-take-le}
use Rattle.bson_doc.specs.Steps.{◌>>=◌}
use Rattle.bson_doc.proofs.Steps.{bind_ok, err_or, mapped-Ok, ok_is}
use Rattle.msg_wire.specs.Fields.{number_at}
use Rattle.msg_wire.specs.Framing.{IsSequence}
use Rattle.msg_wire.specs.Sections.{documents_at, name_at, sequence_at, size_at}
use Rattle.msg_wire.specs.declared.sequence.Sequence.{Sequence}
use Rattle.msg_wire.proofs.DocumentLists.{documents_take, documents_again}
use Rattle.msg_wire.proofs.Names.{name_takes, name_again}
use Rattle.msg_wire.proofs.Places.{number_at-field, number_at-take, number-field_at}

record IsSize (bytes : List ℕ) (n : ℕ) : Type 0 where
  number : number_at 0 bytes ≡ n
  least : 5 ≤ n
  there : n ≤ length bytes

size_takes : (at : ℕ) (bytes : List ℕ) (n : ℕ) → size_at at bytes ≡ Ok n → IsSize bytes n
unfolding size_at
size_takes at bytes n e =
    let a = err_or (ltb (length bytes) 4) _ _ n e in
    let b = err_or (ltb (number_at 0 bytes) 5 || ltb (length bytes) (number_at 0 bytes)) _ _ n a.1 in
    let tests = or_parts (ltb (number_at 0 bytes) 5) (ltb (length bytes) (number_at 0 bytes)) b.0 in
    let same : number_at 0 bytes ≡ n = ok_is (number_at 0 bytes) n b.1 in
    record {
      number = same;
      least = subst (λ (k : ℕ). 5 ≤ k) same (ltb-false _ _ tests.0);
      there = subst (λ (k : ℕ). k ≤ length bytes) same (ltb-false _ _ tests.1);
    }

size_again : (at : ℕ) (bytes : List ℕ) (n : ℕ) → number_at 0 bytes ≡ n → 5 ≤ n → n ≤ length bytes → size_at at bytes ≡ Ok n
unfolding size_at
size_again at bytes n number least there =
    let four : ltb (length bytes) 4 ≡ false = le-ltb _ _ (omega arith) in
    let fits : (ltb n 5 || ltb (length bytes) n) ≡ false = or_from _ _ (le-ltb n 5 least) (le-ltb (length bytes) n there) in
    rw (four, number, fits) refl

-- What was taken for a section of kind 1, behind its kind.
pub record TakesSequence (bytes : List ℕ) (s : Sequence) (rest : List ℕ) : Type 0 where
  pub text : List ℕ
  pub parts : bytes ≡ text ++ rest
  pub is : IsSequence (1 ∷ text) s

pub sequence_takes : (end : ℕ) (bytes : List ℕ) (x : Sequence × List ℕ) → sequence_at end bytes ≡ Ok x → TakesSequence bytes x.0 x.1
unfolding sequence_at
sequence_takes end bytes x e =
    let at : ℕ = end - length bytes - 1 in
    let a = bind_ok (size_at at bytes) (λ size. name_at at (drop 4 (take size bytes)) >>= (λ named. documents_at size (end - length (drop size bytes)) named.1 >>= (λ docs. Ok (record { name = named.0; docs = docs }, drop size bytes)))) x e in
    let n : ℕ = a.0 in
    let inside : List ℕ = take n bytes in
    let b = bind_ok (name_at at (drop 4 inside)) (λ named. documents_at n (end - length (drop n bytes)) named.1 >>= (λ docs. Ok (record { name = named.0; docs = docs }, drop n bytes))) x a.2 in
    let name : List ℕ = b.0.0 in
    let contents : List ℕ = b.0.1 in
    let c = mapped-Ok (λ docs. (record { name = name; docs = docs }, drop n bytes)) (documents_at n (end - length (drop n bytes)) contents) x b.2 in
    let is_size = size_takes at bytes n a.1 in
    let least : 5 ≤ n = is_size.least in
    let there : n ≤ length bytes = is_size.there in
    let named = name_takes at (drop 4 inside) b.0 b.1 in
    let count : length inside ≡ n = length-take-le n bytes there in
    let field : List ℕ = take 4 inside in
    let four : length field ≡ 4 = length-take-le 4 inside (omega arith) in
    let split : inside ≡ field ++ (name ++ 0 ∷ contents) = sym (take-append-drop 4 inside) ∙ ap (λ (xs : List ℕ). field ++ xs) named.0 in
    let size : 4 + length name + 1 + length contents ≡ n = omega (arith, count, ap length split, four, length-append field (name ++ 0 ∷ contents), length-append name (0 ∷ contents)) in
    let reads = number-field_at 0 inside (omega arith) ∙ number_at-take 0 n bytes (omega arith) there ∙ is_size.number in
    subst (λ (y : Sequence × List ℕ). TakesSequence bytes y.0 y.1) c.2 (record {
      text = inside;
      parts = sym (take-append-drop n bytes);
      is = record {
        size = field;
        documents = contents;
        parts = ap (λ (xs : List ℕ). 1 ∷ xs) split;
        counts = record { size = four; reads = reads ∙ sym size };
        is_name = named.1;
        are_documents = documents_take n (end - length (drop n bytes)) contents c.0 c.1;
      };
    })

-- A section of kind 1 is read from the bytes behind its kind.
pub sequence_again : (end : ℕ) (bytes rest : List ℕ) (s : Sequence) (is : IsSequence bytes s) → sequence_at end ((is.size ++ (s.name ++ 0 ∷ is.documents)) ++ rest) ≡ Ok (s, rest)
unfolding sequence_at
sequence_again end bytes rest s is =
    let behind : List ℕ = s.name ++ 0 ∷ is.documents in
    let text : List ℕ = is.size ++ behind in
    let all : List ℕ = text ++ rest in
    let n : ℕ = 4 + length s.name + 1 + length is.documents in
    let four : length is.size ≡ 4 = is.counts.size in
    let count : length text ≡ n = omega (arith, four, length-append is.size behind, length-append s.name (0 ∷ is.documents)) in
    let number : number_at 0 all ≡ n = ap (number_at 0) (append_assoc is.size behind rest) ∙ number_at-field [] is.size (behind ++ rest) 0 refl four ∙ is.counts.reads in
    let size : size_at (end - length all - 1) all ≡ Ok n = size_again (end - length all - 1) all n number (omega arith) (omega (arith, count, length-append text rest)) in
    let front : take n all ≡ text = take_at text rest n count in
    let back : drop n all ≡ rest = drop_at text rest n count in
    let inner : drop 4 text ≡ behind = drop_at is.size behind 4 four in
    let docs = documents_again s.docs n (end - length rest) is.documents (omega arith) is.are_documents in
    rw (size, front, back, inner, name_again (end - length all - 1) s.name is.documents is.is_name, docs) refl
