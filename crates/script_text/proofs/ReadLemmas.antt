-- What a script that was read says of its commands: how many they are, and how deep their documents lie.
use Rattle.std.proofs.Common.{◌≡◌, ℕ, ℤ, pos, negsuc, decimal, ◌^◌, ◌+◌, ◌<◌, ◌≤◌, max, Bool, true, false, ◌&&◌, codes, Option, Some, None, Result, Ok, Err, IfOk, nat_lt, if◌then◌else◌, List, [], ◌∷◌, ◌++◌, length, take, map, refl, sym, ap, subst, ◌∙◌, arith, All, inl, inr}
use Rattle.std.proofs.lemmas.Bool.{ltb-false, ltb-true, lt-ltb, cases_lt}
use Rattle.std.proofs.lemmas.List.{append-nil, take-append-le, length-append}
use Rattle.std.proofs.lemmas.List.Elements.{All-append, All-cons, All-nil}
use Rattle.serde_json.specs.Data.{Num, unsigned, negative, float, Data, null, boolean, number, string, array, object, Items, no_items, item, Members, no_members, member}
use Rattle.bson_doc.specs.Documents.{depth_of, depth_inside, greatest}
use Rattle.bson_doc.specs.declared.value.Document.{Document}
use Rattle.bson_doc.specs.declared.value.Value.{Value}
use Rattle.bson_doc.specs.declared.value.Value.TheVariants as value
use Rattle.bson_doc.specs.declared.value.Value.TheVariants.{outs-Str, outs-Bool, outs-Null, outs-Int32, outs-Int64}
use Rattle.bson_doc.proofs.Depths.{depth_of-elements, depth_inside-Array}
use Rattle.bson_text.specs.Documents.{integer_value, number_value, value_from, values_from, elements_from, document_from}
use Rattle.bson_text.specs.Flaws.{flaws, item_flaws, member_flaws, name_flaws, under}
use Rattle.bson_text.specs.Reading.{reading, unless_flawed}
use Rattle.bson_text.specs.declared.flaw.Flaw.{Flaw}
use Rattle.bson_text.specs.declared.fault.TextFault.{TextFault}
use Rattle.cmd_build.specs.declared.command.Command.{Command}
use Rattle.cmd_build.specs.Sizes.{IsWithin, each}
use Rattle.cmd_build.specs.declared.op.Op.{Op}
use Rattle.cmd_build.specs.declared.op.Op.TheVariants as op
use Rattle.script_text.specs.Commands.{act_in, command_from, head_in, if_read, in_lane, line_reading, need, parsed, reading_if, says_of, with}
use Rattle.script_text.specs.Members.{has_members_of}
use Rattle.script_text.specs.Reads.{read_at}
use Rattle.script_text.specs.Values.{all_at, change_at, flag_at, object_at, op_in}
use Rattle.script_text.specs.declared.head.Head.{Head}
use Rattle.script_text.specs.declared.member.Member.TheVariants as line
use Rattle.script_text.specs.Lines.{lines_of, is_blank, line_behind}
use Rattle.script_text.specs.Scripts.{Reading, most_bytes, most_commands, read_line, readings, command_in, commands_of, fault_at, line_faults, faults_of, unless_faulty, lines_reading, script_reading}
use Rattle.script_text.specs.declared.fault.ScriptFault.{ScriptFault}
use Rattle.script_text.specs.declared.fault.ScriptKind.{ScriptKind}
use Rattle.script_text.specs.declared.fault.ScriptKind.TheVariants as kind
use Rattle.script_text.specs.declared.fault.ScriptRead.{ScriptRead}
use Rattle.script_text.specs.Bounds.{IsBounded}
use Rattle.script_text.specs.Taken.{Answers}
use Rattle.script_text.proofs.DepthLemmas.{depth_inside-layer, depth_inside-Doc}

-- ---- lists that are empty

first_empty : {A : Type 0} (xs ys : List A) → xs ++ ys ≡ [] → xs ≡ []
first_empty [] ys e = refl
first_empty (x ∷ xs) ys e = absurd (let never : ⊥ = cc in never)

second_empty : {A : Type 0} (xs ys : List A) → xs ++ ys ≡ [] → ys ≡ []
second_empty [] ys e = e
second_empty (x ∷ xs) ys e = absurd (let never : ⊥ = cc in never)

map_empty : {A B : Type 0} (f : A → B) (xs : List A) → map f xs ≡ [] → xs ≡ []
map_empty f [] e = refl
map_empty f (x ∷ xs) e = absurd (let never : ⊥ = cc in never)

-- ---- a value without a flaw lies at most 90 levels deep

too_deep : (t : Bool) (first : Flaw) (others : List Flaw) → (if t then first ∷ [] else others) ≡ [] → (t ≡ false) × (others ≡ [])
too_deep true first others e = absurd (let never : ⊥ = cc in never)
too_deep false first others e = (refl, e)

depth_of_choice : (t : Bool) (v w : Value) → depth_inside v ≡ 0 → depth_inside w ≡ 0 → depth_inside (if t then v else w) ≡ 0
depth_of_choice true v w p q = p
depth_of_choice false v w p q = q

depth_inside-integer : (z : ℤ) → depth_inside (integer_value z) ≡ 0
depth_inside-integer (pos n) = depth_of_choice (nat_lt n (2 ^ 31)) (value.Int32 (pos n)) (value.Int64 (pos n)) (depth_inside-layer _ _ (outs-Int32 (pos n))) (depth_inside-layer _ _ (outs-Int64 (pos n)))
depth_inside-integer (negsuc n) = depth_of_choice (nat_lt n (2 ^ 31)) (value.Int32 (negsuc n)) (value.Int64 (negsuc n)) (depth_inside-layer _ _ (outs-Int32 (negsuc n))) (depth_inside-layer _ _ (outs-Int64 (negsuc n)))

depth_inside-number : (n : Num) → depth_inside (number_value n) ≡ 0
depth_inside-number (unsigned n) = depth_inside-integer (pos n)
depth_inside-number (negative z) = depth_inside-integer z
depth_inside-number (float x) = depth_inside-layer _ _ outs-Null

mutual
  shallow-value : (depth : ℕ) (d : Data) → depth ≤ 91 → flaws depth d ≡ [] → depth_inside (value_from d) + depth ≤ 91
  shallow-value depth null le e = omega (arith, depth_inside-layer _ _ outs-Null)
  shallow-value depth (boolean b) le e = omega (arith, depth_inside-layer _ _ (outs-Bool b))
  shallow-value depth (number n) le e = omega (arith, depth_inside-number n)
  shallow-value depth (string s) le e = omega (arith, depth_inside-layer _ _ (outs-Str s))
  shallow-value depth (array ds) le e =
      let inner = too_deep (nat_lt 90 depth) _ (item_flaws (depth + 1) 0 ds) e in
      let fits : depth ≤ 90 = ltb-false 90 depth inner.0 in
      omega (arith, depth_inside-Array (values_from ds), shallow-items (depth + 1) 0 ds (omega arith) inner.1)
  shallow-value depth (object ms) le e =
      let inner = too_deep (nat_lt 90 depth) _ (member_flaws (depth + 1) ms) e in
      let fits : depth ≤ 90 = ltb-false 90 depth inner.0 in
      omega (arith, depth_inside-Doc (document_from ms), depth_of-elements (document_from ms), shallow-members (depth + 1) ms (omega arith) inner.1)

  shallow-items : (depth place : ℕ) (ds : Items) → depth ≤ 91 → item_flaws depth place ds ≡ [] → greatest depth_inside (values_from ds) + depth ≤ 91
  shallow-items depth place no_items le e = omega arith
  shallow-items depth place (item d ds) le e =
      let first = shallow-value depth d le (map_empty _ _ (first_empty _ _ e)) in
      let others = shallow-items depth (place + 1) ds le (second_empty (map (under (decimal place)) (flaws depth d)) _ e) in
      omega arith

  shallow-members : (depth : ℕ) (ms : Members) → depth ≤ 91 → member_flaws depth ms ≡ [] → greatest (λ e. depth_inside e.1) (elements_from ms) + depth ≤ 91
  shallow-members depth no_members le e = omega arith
  shallow-members depth (member k d ms) le e =
      let rest = second_empty (name_flaws k) _ e in
      let first = shallow-value depth d le (map_empty _ _ (first_empty _ _ rest)) in
      let others = shallow-members depth ms le (second_empty (map (under k) (flaws depth d)) _ rest) in
      omega arith

read_unless : (document d : Document) (found : List Flaw) → unless_flawed document found ≡ Ok d → (found ≡ []) × (document ≡ d)
read_unless document d [] e = (refl, cc)
read_unless document d (first ∷ others) e = absurd (let never : ⊥ = cc in never)

reading-shallow : (v : Data) (d : Document) → reading v ≡ Ok d → depth_of d ≤ 90
reading-shallow null d e = absurd (let never : ⊥ = cc in never)
reading-shallow (boolean b) d e = absurd (let never : ⊥ = cc in never)
reading-shallow (number n) d e = absurd (let never : ⊥ = cc in never)
reading-shallow (string s) d e = absurd (let never : ⊥ = cc in never)
reading-shallow (array ds) d e = absurd (let never : ⊥ = cc in never)
reading-shallow (object ms) d e =
    let parts = read_unless (document_from ms) d (flaws 1 (object ms)) e in
    omega (arith, ap depth_of parts.1, depth_inside-Doc (document_from ms), shallow-value 1 (object ms) (omega arith) parts.0)

-- ---- so do the documents of commands

abbrev IsShallow : Result Command ScriptKind → Type 0
IsShallow (Ok command) = IsWithin 90 command.act
IsShallow (Err kind) = Unit {0}

need-shallow : {A : Type 0} (o : Option A) (f : A → Result Command ScriptKind) → ((x : A) → IsShallow (f x)) → IsShallow (need o f)
need-shallow None f h = tt
need-shallow (Some x) f h = h x

in_lane-shallow : (o : Option ℕ) (f : ℕ → Result Command ScriptKind) → ((n : ℕ) → IsShallow (f n)) → IsShallow (in_lane o f)
in_lane-shallow None f h = tt
in_lane-shallow (Some n) f h = h n

with-shallow : {A : Type 0} (r : Result A TextFault) (f : A → Result Command ScriptKind) → ((x : A) → r ≡ Ok x → IsShallow (f x)) → IsShallow (with r f)
with-shallow (Err e) f h = tt
with-shallow (Ok x) f h = h x refl

abbrev Fits : Document → Type 0
Fits d = depth_of d ≤ 90

one-fits : (d : Document) (ds : List Document) → Fits d → All Fits ds → All Fits (d ∷ ds)
one-fits d ds h all = All-cons Fits d ds h all

if_read-shallow : (d : Data) (r : Result Document TextFault) (c : Option Document) → ((x : Document) → r ≡ Ok x → Fits x) → if_read r ≡ Ok c → All Fits (each c)
if_read-shallow d (Err e) c h q = absurd (let never : ⊥ = cc in never)
if_read-shallow d (Ok x) None h q = absurd (let never : ⊥ = cc in never)
if_read-shallow d (Ok x) (Some y) h q = one-fits y [] (let same : x ≡ y = cc in subst Fits same (h x refl)) (All-nil Fits)

reading_if-shallow : (o : Option Data) (c : Option Document) → reading_if o ≡ Ok c → All Fits (each c)
reading_if-shallow None None q = All-nil Fits
reading_if-shallow None (Some y) q = absurd (let never : ⊥ = cc in never)
reading_if-shallow (Some d) c q = if_read-shallow d (reading d) c (reading-shallow d) q

act_in-shallow : (o : Op) (h : Head) (d : Data) → IsShallow (act_in o h d)
act_in-shallow op.Insert h d =
    need-shallow (object_at line.Doc d) _ (λ doc. in_lane-shallow h.lane _ (λ lane.
    with-shallow (reading doc) _ (λ x e. one-fits x [] (reading-shallow doc x e) (All-nil Fits))))
act_in-shallow op.Update h d =
    need-shallow (object_at line.Filter d) _ (λ filter. need-shallow (object_at line.Change d) _ (λ change.
    need-shallow (flag_at line.Multi d) _ (λ multi. need-shallow (flag_at line.Upsert d) _ (λ upsert. in_lane-shallow h.lane _ (λ lane.
    with-shallow (reading filter) _ (λ x e. with-shallow (reading change) _ (λ y f.
    one-fits x (y ∷ []) (reading-shallow filter x e) (one-fits y [] (reading-shallow change y f) (All-nil Fits)))))))))
act_in-shallow op.Delete h d =
    need-shallow (object_at line.Filter d) _ (λ filter. need-shallow (all_at d) _ (λ all. in_lane-shallow h.lane _ (λ lane.
    with-shallow (reading filter) _ (λ x e. one-fits x [] (reading-shallow filter x e) (All-nil Fits)))))
act_in-shallow op.FindAndModify h d =
    need-shallow (object_at line.Filter d) _ (λ filter. need-shallow (change_at d) _ (λ change. in_lane-shallow h.lane _ (λ lane.
    with-shallow (reading filter) _ (λ x e. with-shallow (reading_if change) _ (λ y f.
    one-fits x (each y) (reading-shallow filter x e) (reading_if-shallow change y f))))))
act_in-shallow op.Find h d =
    need-shallow (object_at line.Filter d) _ (λ filter. need-shallow (read_at d) _ (λ read. in_lane-shallow h.lane _ (λ lane.
    with-shallow (reading filter) _ (λ x e. one-fits x [] (reading-shallow filter x e) (All-nil Fits)))))

choice-shallow : (t : Bool) (r : Result Command ScriptKind) → IsShallow r → IsShallow (if t then r else Err kind.Shape)
choice-shallow true r h = h
choice-shallow false r h = tt

command_from-shallow : (d : Data) → IsShallow (command_from d)
unfolding command_from
command_from-shallow d =
    need-shallow (op_in d) _ (λ o. choice-shallow (has_members_of o d) _ (need-shallow (head_in d) _ (λ h. act_in-shallow o h d)))

says_of-shallow : (found : Option Data) → IsShallow (says_of found)
says_of-shallow None = tt
says_of-shallow (Some d) = command_from-shallow d

abbrev Shallow : Command → Type 0
Shallow c = IsWithin 90 c.act

command_in-shallow : (r : Result Command ScriptKind) → IsShallow r → All Shallow (command_in r)
command_in-shallow (Ok command) h = All-cons Shallow command [] h (All-nil Shallow)
command_in-shallow (Err kind) h = All-nil Shallow

behind-shallow : (t : Bool) (r : Reading) (rest : List Reading) → IsShallow r.says → All Shallow (commands_of rest) → All Shallow (commands_of ((if t then [] else r ∷ []) ++ rest))
behind-shallow true r rest h all = all
behind-shallow false r rest h all = All-append Shallow (command_in r.says) (commands_of rest) (command_in-shallow r.says h) all

readings-shallow : (n : ℕ) (lines : List (List ℕ)) → All Shallow (commands_of (readings n lines))
readings-shallow n [] = All-nil Shallow
readings-shallow n (line ∷ lines) =
    behind-shallow (is_blank line) (record { number = n; says = line_reading line }) (readings (n + 1) lines) (says_of-shallow (parsed line)) (readings-shallow (n + 1) lines)

-- ---- how many they are

enough : (t : Bool) (first : ScriptFault) (others : List ScriptFault) → (if t then [] else first ∷ []) ++ others ≡ [] → (t ≡ true) × (others ≡ [])
enough true first others e = (refl, e)
enough false first others e = absurd (let never : ⊥ = cc in never)

few_behind : (before n : ℕ) (says : Result Command ScriptKind) (rs : List Reading) → before ≤ 100000
    → line_faults before n says ++ faults_of (before + length (command_in says)) rs ≡ []
    → (before + length (command_in says) ≤ 100000) × (faults_of (before + length (command_in says)) rs ≡ [])
few_behind before n (Err told) rs le e = absurd (let never : ⊥ = cc in never)
few_behind before n (Ok command) rs le e =
    let room = enough (nat_lt before most_commands) (fault_at n kind.Long) (faults_of (before + 1) rs) e in
    (let below : before < 100000 = ltb-true before 100000 room.0 in omega arith, room.1)

few_commands : (before : ℕ) (rs : List Reading) → before ≤ 100000 → faults_of before rs ≡ [] → before + length (commands_of rs) ≤ 100000
few_commands before [] le e = omega arith
few_commands before (r ∷ rs) le e =
    let step = few_behind before r.number r.says rs le e in
    omega (arith, few_commands (before + length (command_in r.says)) rs step.0 step.1, length-append (command_in r.says) (commands_of rs))

-- ---- a script that was read

read_lines : (commands cs : List Command) (found : List ScriptFault) → unless_faulty commands found ≡ Ok cs → (found ≡ []) × (commands ≡ cs)
read_lines commands cs [] e = (refl, cc)
read_lines commands cs (first ∷ others) e = absurd (let never : ⊥ = cc in never)

read_script : (t : Bool) (fault : ScriptFault) (r : Result (List Command) ScriptFault) (cs : List Command) → (if t then Err fault else r) ≡ Ok cs → r ≡ Ok cs
read_script true fault r cs e = absurd (let never : ⊥ = cc in never)
read_script false fault r cs e = e

lines_read : (text : List ℕ) (cs : List Command) → script_reading text ≡ Ok cs → lines_reading (lines_of text) ≡ Ok cs
unfolding script_reading
lines_read text cs e = read_script (nat_lt most_bytes (length text)) (fault_at (line_behind (take most_bytes text)) kind.Long) (lines_reading (lines_of text)) cs e

-- The commands of a script that was read are few, and lie not deep.
commands-bounded : (text : List ℕ) (cs : List Command) → script_reading text ≡ Ok cs → IsBounded cs
commands-bounded text cs e =
    let parts = read_lines (commands_of (readings 1 (lines_of text))) cs (faults_of 0 (readings 1 (lines_of text))) (lines_read text cs e) in
    record {
      few = omega (arith, ap length parts.1, few_commands 0 (readings 1 (lines_of text)) (omega arith) parts.0);
      shallow = subst (λ xs. All Shallow xs) parts.1 (readings-shallow 1 (lines_of text));
    }

pub answers-bounded : (r : Result (List Command) ScriptRead) (bytes : List ℕ) → Answers r bytes → IfOk r IsBounded
answers-bounded (Ok commands) bytes says = commands-bounded bytes commands says
answers-bounded (Err stop) bytes says = tt

-- What the bytes that were taken say is what all of the source says.
long_reading : (text : List ℕ) → most_bytes < length text → script_reading text ≡ Err (fault_at (line_behind (take most_bytes text)) kind.Long)
unfolding script_reading
long_reading text lt = rw (lt-ltb most_bytes (length text) lt) refl

pub reading-of_source : (bytes new : List ℕ) → (length bytes ≤ most_bytes → new ≡ []) → script_reading (bytes ++ new) ≡ script_reading bytes
reading-of_source bytes new whole =
    elim (cases_lt most_bytes (length bytes)) [
      | inl long ↦
          long_reading (bytes ++ new) (omega (arith, length-append bytes new))
          ∙ ap (λ (front : List ℕ). Err (fault_at (line_behind front) kind.Long)) (take-append-le most_bytes bytes new (omega arith))
          ∙ sym (long_reading bytes long)
      | inr short ↦ ap script_reading (ap (λ (xs : List ℕ). bytes ++ xs) (whole short) ∙ append-nil bytes)
    ]

-- A text that is read is not too long.
pub read-short : (text : List ℕ) (cs : List Command) → script_reading text ≡ Ok cs → length text ≤ most_bytes
read-short text cs e =
    elim (cases_lt most_bytes (length text)) [
      | inl long ↦ absurd (let refused = long_reading text long in let never : ⊥ = cc in never)
      | inr short ↦ short
    ]
