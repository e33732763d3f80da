-- The parts of values: what is read of them is spelled so, and what is spelled so is read, whatever follows.
use Rattle.std.proofs.Common.{◌≡◌, ℕ, zero, suc, ◌+◌, ◌-◌, ◌≤◌, false, cond, ltb, ◌||◌, List, [], ◌∷◌, ◌++◌, length, take, drop, Ok, Err, refl, sym, ap, subst, ◌∙◌, append_assoc, arith}
use Rattle.std.proofs.lemmas.Bool.{cond-false, ltb-false, le-ltb, or_parts, or_from}
use Rattle.std.proofs.lemmas.List.{take_at, drop_at, take-append-drop, length-append, length-take-le}
use Rattle.byteorder.specs.Endian.{little_number}
use Rattle.bson_doc.specs.declared.bson_fault.BsonFault.TheVariants as fault
use Rattle.bson_doc.specs.Steps.{◌>>=◌, or_fault}
use Rattle.bson_doc.specs.wire.Spelling.{IsNumber32, IsString, IsName, IsBinary, IsRegex, IsDbPointer}
use Rattle.bson_doc.specs.wire.Reading.{byte_at, bytes_at, until_zero, behind_zero, text_at, name_at, length_at, string_at, binary_at, regex_at, pointer_at}
use Rattle.bson_doc.proofs.Steps.{bind_ok, guard_ok, ok_is, mapped-Ok, or_fault-Ok}
use Rattle.bson_doc.proofs.wire.Texts.{text_at-utf8, text_at-Ok, until_zero-Some, until_zero-name}

-- ---- so many bytes

pub bytes_take : (at n : ℕ) (bytes : List ℕ) (x : List ℕ × List ℕ) → bytes_at at n bytes ≡ Ok x → (bytes ≡ x.0 ++ x.1) × (length x.0 ≡ n)
bytes_take at n bytes x e =
    let g = guard_ok (ltb (length bytes) n) (fault.Length at) (take n bytes, drop n bytes) x e in
    let enough : n ≤ length bytes = ltb-false _ _ g.0 in
    subst (λ (y : List ℕ × List ℕ). (bytes ≡ y.0 ++ y.1) × (length y.0 ≡ n)) g.1 (sym (take-append-drop n bytes), length-take-le n bytes enough)

pub bytes_again : (at n : ℕ) (text rest : List ℕ) → length text ≡ n → bytes_at at n (text ++ rest) ≡ Ok (text, rest)
bytes_again at n text rest e =
    let all : List ℕ = text ++ rest in
    cond-false (ltb (length all) n) (Err (fault.Length at)) (Ok (take n all, drop n all)) (le-ltb _ _ (omega (arith, length-append text rest)))
    ∙ ap (λ (xs : List ℕ). Ok (xs, drop n all)) (take_at text rest n e) ∙ ap (λ (xs : List ℕ). Ok (text, xs)) (drop_at text rest n e)

-- ---- a byte

pub byte_takes : (at : ℕ) (bytes : List ℕ) (x : ℕ × List ℕ) → byte_at at bytes ≡ Ok x → bytes ≡ x.0 ∷ x.1
byte_takes at [] x e = absurd cc
byte_takes at (b ∷ bs) x e = subst (λ (y : ℕ × List ℕ). b ∷ bs ≡ y.0 ∷ y.1) (ok_is (b, bs) x e) refl

-- ---- a 00

pub zero_takes : (at : ℕ) (bytes rest : List ℕ) → behind_zero at bytes ≡ Ok rest → bytes ≡ 0 ∷ rest
zero_takes at [] rest e = absurd cc
zero_takes at (zero ∷ bs) rest e = ap (λ (xs : List ℕ). 0 ∷ xs) (ok_is bs rest e)
zero_takes at (suc b ∷ bs) rest e = absurd cc

-- ---- lengths

-- what is said of a length that was read
pub record IsLength (least own : ℕ) (bytes : List ℕ) (n : ℕ) (rest : List ℕ) : Type 0 where
  pub number : List ℕ
  pub counts : IsNumber32 number n
  pub parts : bytes ≡ number ++ rest
  pub low : least ≤ n
  pub high : n ≤ length rest + own

pub length_takes : (least own end : ℕ) (bytes : List ℕ) (x : ℕ × List ℕ) → length_at least own end bytes ≡ Ok x → IsLength least own bytes x.0 x.1
unfolding length_at
length_takes least own end bytes x e =
    let at : ℕ = end - length bytes in
    let a = bind_ok (bytes_at at 4 bytes) (λ number. cond (ltb (little_number 4 number.0) least || ltb (length number.1 + own) (little_number 4 number.0)) (Err (fault.Length at)) (Ok (little_number 4 number.0, number.1))) x e in
    let t = bytes_take at 4 bytes a.0 a.1 in
    let n : ℕ = little_number 4 a.0.0 in
    let g = guard_ok (ltb n least || ltb (length a.0.1 + own) n) (fault.Length at) (n, a.0.1) x a.2 in
    let tests = or_parts (ltb n least) (ltb (length a.0.1 + own) n) g.0 in
    subst (λ (y : ℕ × List ℕ). IsLength least own bytes y.0 y.1) g.1 (record {
      number = a.0.0;
      counts = record { size = t.1; reads = refl };
      parts = t.0;
      low = ltb-false _ _ tests.0;
      high = ltb-false _ _ tests.1;
    })

pub length_again : (least own end n : ℕ) (number rest : List ℕ) → IsNumber32 number n → least ≤ n → n ≤ length rest + own → length_at least own end (number ++ rest) ≡ Ok (n, rest)
unfolding length_at
length_again least own end n number rest counts low high =
    let at : ℕ = end - length (number ++ rest) in
    let reads : little_number 4 number ≡ n = counts.reads in
    let passes : (ltb n least || ltb (length rest + own) n) ≡ false = or_from _ _ (le-ltb n least low) (le-ltb (length rest + own) n high) in
    rw (bytes_again at 4 number rest counts.size, reads) (cond-false _ _ _ passes)

-- ---- texts and names

pub name_takes : (start end : ℕ) (bytes : List ℕ) (x : List ℕ × List ℕ) → name_at start end bytes ≡ Ok x → (bytes ≡ x.0 ++ 0 ∷ x.1) × IsName x.0
unfolding name_at
name_takes start end bytes x e =
    let at : ℕ = end - length bytes in
    let a = bind_ok (or_fault (fault.Length start) (until_zero bytes)) (λ parts. text_at at parts.0 >>= (λ name. Ok (name, parts.1))) x e in
    let b = mapped-Ok (λ name. (name, a.0.1)) (text_at at a.0.0) x a.2 in
    let t = text_at-Ok at a.0.0 b.0 b.1 in
    let parts = until_zero-Some bytes a.0 (or_fault-Ok _ _ a.0 a.1) in
    subst (λ (y : List ℕ × List ℕ). (bytes ≡ y.0 ++ 0 ∷ y.1) × IsName y.0) (ap (λ (name : List ℕ). (name, a.0.1)) t.0 ∙ b.2) (parts.0, record { no_zero = parts.1; utf8 = t.1 })

pub name_again : (start end : ℕ) (name rest : List ℕ) → IsName name → name_at start end (name ++ 0 ∷ rest) ≡ Ok (name, rest)
unfolding name_at
name_again start end name rest is =
    rw (until_zero-name name rest is.no_zero, text_at-utf8 (end - length (name ++ 0 ∷ rest)) name is.utf8) refl

-- what was taken of some bytes
pub record Took (Is : List ℕ → Type 0) (bytes rest : List ℕ) : Type 0 where
  pub spelling : List ℕ
  pub parts : bytes ≡ spelling ++ rest
  pub is : Is spelling

-- what was taken for a string
abbrev pub TakesString : List ℕ → List ℕ → List ℕ → Type 0
TakesString bytes text rest = Took (λ spelling. IsString spelling text) bytes rest

pub string_takes : (end : ℕ) (bytes : List ℕ) (x : List ℕ × List ℕ) → string_at end bytes ≡ Ok x → TakesString bytes x.0 x.1
unfolding string_at
string_takes end bytes x e =
    let at : ℕ = end - length bytes in
    let a = bind_ok (length_at 1 0 end bytes) (λ n. behind_zero at (drop (n.0 - 1) n.1) >>= (λ rest. text_at (end - length n.1) (take (n.0 - 1) n.1) >>= (λ text. Ok (text, rest)))) x e in
    let n : ℕ = a.0.0 in
    let behind : List ℕ = a.0.1 in
    let b = bind_ok (behind_zero at (drop (n - 1) behind)) (λ rest. text_at (end - length behind) (take (n - 1) behind) >>= (λ text. Ok (text, rest))) x a.2 in
    let c = mapped-Ok (λ text. (text, b.0)) (text_at (end - length behind) (take (n - 1) behind)) x b.2 in
    let l = length_takes 1 0 end bytes a.0 a.1 in
    let t = text_at-Ok (end - length behind) (take (n - 1) behind) c.0 c.1 in
    let size : length (take (n - 1) behind) + 1 ≡ n = omega (arith, length-take-le (n - 1) behind (omega (arith, l.high)), l.low) in
    let halves : behind ≡ take (n - 1) behind ++ (0 ∷ b.0) = sym (take-append-drop (n - 1) behind) ∙ ap (λ (xs : List ℕ). take (n - 1) behind ++ xs) (zero_takes at (drop (n - 1) behind) b.0 b.1) in
    let text : List ℕ = take (n - 1) behind in
    let whole : bytes ≡ (l.number ++ (text ++ 0 ∷ [])) ++ b.0 =
    l.parts ∙ ap (λ (xs : List ℕ). l.number ++ xs) (halves ∙ sym (append_assoc text (0 ∷ []) b.0)) ∙ sym (append_assoc l.number (text ++ 0 ∷ []) b.0) in
    subst (λ (y : List ℕ × List ℕ). TakesString bytes y.0 y.1) (ap (λ (w : List ℕ). (w, b.0)) t.0 ∙ c.2) (record {
      spelling = l.number ++ (text ++ 0 ∷ []);
      parts = whole;
      is = record { number = l.number; counts = subst (IsNumber32 l.number) (sym size) l.counts; parts = refl; utf8 = t.1 };
    })

pub string_again : (end : ℕ) (bytes text rest : List ℕ) → IsString bytes text → string_at end (bytes ++ rest) ≡ Ok (text, rest)
unfolding string_at
string_again end bytes text rest is =
    let n : ℕ = length text + 1 in
    let behind : List ℕ = text ++ 0 ∷ rest in
    let regrouped : bytes ++ rest ≡ is.number ++ behind =
    ap (λ (xs : List ℕ). xs ++ rest) is.parts ∙ append_assoc is.number (text ++ 0 ∷ []) rest ∙ ap (λ (xs : List ℕ). is.number ++ xs) (append_assoc text (0 ∷ []) rest) in
    let front : take (n - 1) behind ≡ text = take_at text (0 ∷ rest) (n - 1) (omega arith) in
    let back : drop (n - 1) behind ≡ 0 ∷ rest = drop_at text (0 ∷ rest) (n - 1) (omega arith) in
    ap (string_at end) regrouped
    ∙ rw (length_again 1 0 end n is.number behind is.counts (omega arith) (omega (arith, length-append text (0 ∷ rest))), back, front, text_at-utf8 (end - length behind) text is.utf8) refl

-- ---- binaries, regular expressions, pointers

pub binary_takes : (end : ℕ) (bytes : List ℕ) (x : (ℕ × List ℕ) × List ℕ) → binary_at end bytes ≡ Ok x → Took (λ spelling. IsBinary spelling x.0.0 x.0.1) bytes x.1
unfolding binary_at
binary_takes end bytes x e =
    let at : ℕ = end - length bytes in
    let a = bind_ok (length_at 0 0 end bytes) (λ n. byte_at at n.1 >>= (λ subtype. bytes_at at n.0 subtype.1 >>= (λ held. Ok ((subtype.0, held.0), held.1)))) x e in
    let b = bind_ok (byte_at at a.0.1) (λ subtype. bytes_at at a.0.0 subtype.1 >>= (λ held. Ok ((subtype.0, held.0), held.1))) x a.2 in
    let c = mapped-Ok (λ held. ((b.0.0, held.0), held.1)) (bytes_at at a.0.0 b.0.1) x b.2 in
    let l = length_takes 0 0 end bytes a.0 a.1 in
    let s = byte_takes at a.0.1 b.0 b.1 in
    let t = bytes_take at a.0.0 b.0.1 c.0 c.1 in
    let held : List ℕ = b.0.0 ∷ c.0.0 in
    subst (λ (y : (ℕ × List ℕ) × List ℕ). Took (λ spelling. IsBinary spelling y.0.0 y.0.1) bytes y.1) c.2 (record {
      spelling = l.number ++ held;
      parts = l.parts ∙ ap (λ (xs : List ℕ). l.number ++ xs) (s ∙ ap (λ (xs : List ℕ). b.0.0 ∷ xs) t.0) ∙ sym (append_assoc l.number held c.0.1);
      is = record { number = l.number; counts = subst (IsNumber32 l.number) (sym t.1) l.counts; parts = refl };
    })

pub binary_again : (end : ℕ) (bytes : List ℕ) (subtype : ℕ) (held rest : List ℕ) → IsBinary bytes subtype held → binary_at end (bytes ++ rest) ≡ Ok ((subtype, held), rest)
unfolding binary_at
binary_again end bytes subtype held rest is =
    let behind : List ℕ = subtype ∷ (held ++ rest) in
    let regrouped : bytes ++ rest ≡ is.number ++ behind = ap (λ (xs : List ℕ). xs ++ rest) is.parts ∙ append_assoc is.number (subtype ∷ held) rest in
    let at : ℕ = end - length (is.number ++ behind) in
    ap (binary_at end) regrouped
    ∙ rw (length_again 0 0 end (length held) is.number behind is.counts (omega arith) (omega (arith, length-append held rest)), bytes_again at (length held) held rest refl) refl

pub regex_takes : (start end : ℕ) (bytes : List ℕ) (x : (List ℕ × List ℕ) × List ℕ) → regex_at start end bytes ≡ Ok x → Took (λ spelling. IsRegex spelling x.0.0 x.0.1) bytes x.1
unfolding regex_at
regex_takes start end bytes x e =
    let a = bind_ok (name_at start end bytes) (λ pattern. name_at start end pattern.1 >>= (λ options. Ok ((pattern.0, options.0), options.1))) x e in
    let b = mapped-Ok (λ options. ((a.0.0, options.0), options.1)) (name_at start end a.0.1) x a.2 in
    let n = name_takes start end bytes a.0 a.1 in
    let m = name_takes start end a.0.1 b.0 b.1 in
    let behind : List ℕ = b.0.0 ++ 0 ∷ [] in
    subst (λ (y : (List ℕ × List ℕ) × List ℕ). Took (λ spelling. IsRegex spelling y.0.0 y.0.1) bytes y.1) b.2 (record {
      spelling = a.0.0 ++ 0 ∷ behind;
      parts = n.0 ∙ ap (λ (xs : List ℕ). a.0.0 ++ 0 ∷ xs) (m.0 ∙ sym (append_assoc b.0.0 (0 ∷ []) b.0.1)) ∙ sym (append_assoc a.0.0 (0 ∷ behind) b.0.1);
      is = record { parts = refl; first = n.1; second = m.1 };
    })

pub regex_again : (start end : ℕ) (bytes pattern options rest : List ℕ) → IsRegex bytes pattern options → regex_at start end (bytes ++ rest) ≡ Ok ((pattern, options), rest)
unfolding regex_at
regex_again start end bytes pattern options rest is =
    let behind : List ℕ = options ++ 0 ∷ rest in
    let regrouped : bytes ++ rest ≡ pattern ++ 0 ∷ behind =
    ap (λ (xs : List ℕ). xs ++ rest) is.parts ∙ append_assoc pattern (0 ∷ (options ++ 0 ∷ [])) rest ∙ ap (λ (xs : List ℕ). pattern ++ 0 ∷ xs) (append_assoc options (0 ∷ []) rest) in
    ap (regex_at start end) regrouped ∙ rw (name_again start end pattern behind is.first, name_again start end options rest is.second) refl

pub pointer_takes : (start end : ℕ) (bytes : List ℕ) (x : (List ℕ × List ℕ) × List ℕ) → pointer_at start end bytes ≡ Ok x → Took (λ spelling. IsDbPointer spelling x.0.0 x.0.1) bytes x.1
unfolding pointer_at
pointer_takes start end bytes x e =
    let a = bind_ok (string_at end bytes) (λ space. bytes_at start 12 space.1 >>= (λ id. Ok ((space.0, id.0), id.1))) x e in
    let b = mapped-Ok (λ id. ((a.0.0, id.0), id.1)) (bytes_at start 12 a.0.1) x a.2 in
    let s = string_takes end bytes a.0 a.1 in
    let t = bytes_take start 12 a.0.1 b.0 b.1 in
    subst (λ (y : (List ℕ × List ℕ) × List ℕ). Took (λ spelling. IsDbPointer spelling y.0.0 y.0.1) bytes y.1) b.2 (record {
      spelling = s.spelling ++ b.0.0;
      parts = s.parts ∙ ap (λ (xs : List ℕ). s.spelling ++ xs) t.0 ∙ sym (append_assoc s.spelling b.0.0 b.0.1);
      is = record { string = s.spelling; parts = refl; text = s.is; size = t.1 };
    })

pub pointer_again : (start end : ℕ) (bytes space id rest : List ℕ) → IsDbPointer bytes space id → pointer_at start end (bytes ++ rest) ≡ Ok ((space, id), rest)
unfolding pointer_at
pointer_again start end bytes space id rest is =
    let regrouped : bytes ++ rest ≡ is.string ++ (id ++ rest) = ap (λ (xs : List ℕ). xs ++ rest) is.parts ∙ append_assoc is.string id rest in
    ap (pointer_at start end) regrouped ∙ rw (string_again end is.string space (id ++ rest) is.text, bytes_again start 12 id rest is.size) refl
