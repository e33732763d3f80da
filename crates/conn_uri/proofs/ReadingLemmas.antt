-- Lemmas on what a connection string gives.
use Rattle.std.proofs.Common.{◌≡◌, ◌≤◌, ◌<◌, ◌+◌, ◌-◌, ℕ, suc, Bool, true, false, not, cond, ◌||◌, List, [], ◌∷◌, ◌++◌, Option, Some, None, Result, Ok, Err, length, length-append, refl, sym, ap, ◌∙◌, subst, arith}
use Rattle.std.specs.Prelude.{filter, fold}
use Rattle.std.specs.List.{list_any}
use Rattle.bson_doc.specs.Steps.{◌>>=◌}
use Rattle.host_name.specs.Addresses.{Address, is_same_address}
use Rattle.conn_uri.specs.Configurations.{AreSeeds}
use Rattle.conn_uri.specs.Each.{read_each}
use Rattle.conn_uri.specs.Escapes.{decoded}
use Rattle.conn_uri.specs.Grammar.{Part, before_part, host_pieces, hosts_part, db_part, option_pieces}
use Rattle.conn_uri.specs.Reading.{said_in, db_of, decoded_in, first_left, none_left}
use Rattle.conn_uri.specs.Seeds.{host_in, is_path, with_host, kept_once, seeds_in}
use Rattle.conn_uri.specs.declared.chosen.Chosen.{Chosen}
use Rattle.conn_uri.specs.declared.decoded.Decoded.{Decoded}
use Rattle.conn_uri.specs.declared.fault.UriFault.{UriFault}
use Rattle.conn_uri.specs.declared.fault.UriFault.TheVariants as fault
use Rattle.conn_uri.specs.declared.said.Said.{Said}
use Rattle.conn_uri.proofs.CutLemmas.{length-pieces, length-before}
use Rattle.conn_uri.proofs.SeedLemmas.{kept_once-distinct}

-- ---- The texts

pub decoded_in-ok : (body : Part) (hosts : List (List ℕ)) (db : List ℕ) (options : List (Option Said))
    → read_each decoded (host_pieces body) ≡ Ok hosts → decoded (db_part body) ≡ Ok db → read_each said_in (option_pieces body) ≡ Ok options
    → decoded_in body ≡ Ok (record { hosts = hosts; db = db_of db; options = options })
decoded_in-ok body hosts db options a b c =
    ap (λ r. r >>= (λ hs. decoded (db_part body) >>= (λ d. read_each said_in (option_pieces body) >>= (λ os. Ok (record { hosts = hs; db = db_of d; options = os }))))) a
    ∙ ap (λ r. r >>= (λ d. read_each said_in (option_pieces body) >>= (λ os. Ok (record { hosts = hosts; db = db_of d; options = os })))) b
    ∙ ap (λ r. r >>= (λ os. Ok (record { hosts = hosts; db = db_of db; options = os }))) c

pub decoded_in-hosts : (body : Part) (e : UriFault) → read_each decoded (host_pieces body) ≡ Err e → decoded_in body ≡ Err e
decoded_in-hosts body e a =
    ap (λ r. r >>= (λ hs. decoded (db_part body) >>= (λ d. read_each said_in (option_pieces body) >>= (λ os. Ok (record { hosts = hs; db = db_of d; options = os }))))) a

pub decoded_in-db : (body : Part) (hosts : List (List ℕ)) (e : UriFault)
    → read_each decoded (host_pieces body) ≡ Ok hosts → decoded (db_part body) ≡ Err e → decoded_in body ≡ Err e
decoded_in-db body hosts e a b =
    ap (λ r. r >>= (λ hs. decoded (db_part body) >>= (λ d. read_each said_in (option_pieces body) >>= (λ os. Ok (record { hosts = hs; db = db_of d; options = os }))))) a
    ∙ ap (λ r. r >>= (λ d. read_each said_in (option_pieces body) >>= (λ os. Ok (record { hosts = hosts; db = db_of d; options = os })))) b

pub decoded_in-options : (body : Part) (hosts : List (List ℕ)) (db : List ℕ) (e : UriFault)
    → read_each decoded (host_pieces body) ≡ Ok hosts → decoded (db_part body) ≡ Ok db → read_each said_in (option_pieces body) ≡ Err e → decoded_in body ≡ Err e
decoded_in-options body hosts db e a b c =
    ap (λ r. r >>= (λ hs. decoded (db_part body) >>= (λ d. read_each said_in (option_pieces body) >>= (λ os. Ok (record { hosts = hs; db = db_of d; options = os }))))) a
    ∙ ap (λ r. r >>= (λ d. read_each said_in (option_pieces body) >>= (λ os. Ok (record { hosts = hosts; db = db_of d; options = os })))) b
    ∙ ap (λ r. r >>= (λ os. Ok (record { hosts = hosts; db = db_of db; options = os }))) c

-- ---- How many there are

read_more : {E B : Type 0} (r : Result B E) (s : Result (List B) E) (ys : List B) (n : ℕ) → ((zs : List B) → s ≡ Ok zs → length zs ≡ n)
    → (r >>= (λ y. s >>= (λ zs. Ok (y ∷ zs)))) ≡ Ok ys → length ys ≡ suc n
read_more (Err e) s ys n h is = absurd (cc)
read_more (Ok y) (Err e) ys n h is = absurd (cc)
read_more (Ok y) (Ok zs) ys n h is = let same : y ∷ zs ≡ ys = cc in sym (ap length same) ∙ ap suc (h zs refl)

read_each-length : {E A B : Type 0} (f : A → Result B E) (xs : List A) (ys : List B) → read_each f xs ≡ Ok ys → length ys ≡ length xs
read_each-length f [] ys is = let same : [] ≡ ys = cc in sym (ap length same)
read_each-length f (x ∷ xs) ys is = read_more (f x) (read_each f xs) ys (length xs) (λ zs e. read_each-length f xs zs e) is

read_hosts : (r : Result (List (List ℕ)) UriFault) (rest : List (List ℕ) → Result Decoded UriFault) (d : Decoded)
    → ((hosts : List (List ℕ)) → rest hosts ≡ Ok d → hosts ≡ d.hosts) → (r >>= rest) ≡ Ok d → r ≡ Ok d.hosts
read_hosts (Err e) rest d h is = absurd (cc)
read_hosts (Ok hosts) rest d h is = ap Ok (h hosts is)

rest_keeps : (hosts : List (List ℕ)) (r : Result (List ℕ) UriFault) (s : Result (List (Option Said)) UriFault) (d : Decoded)
    → (r >>= (λ db. s >>= (λ os. Ok (record { hosts = hosts; db = db_of db; options = os })))) ≡ Ok d → hosts ≡ d.hosts
rest_keeps hosts (Err e) s d is = absurd (cc)
rest_keeps hosts (Ok db) (Err e) d is = absurd (cc)
rest_keeps hosts (Ok db) (Ok os) d is = let same : (record { hosts = hosts; db = db_of db; options = os }) ≡ d = cc in ap (λ (x : Decoded). x.hosts) same

-- the hosts are as many as their pieces: one at least, and no more than bytes and one
pub decoded_in-hosts_counted : (body : Part) (d : Decoded) → decoded_in body ≡ Ok d → (1 ≤ length d.hosts) × (length d.hosts ≤ length body.text + 1)
decoded_in-hosts_counted body d is =
    let read = read_hosts (read_each decoded (host_pieces body)) _ d (λ hosts e. rest_keeps hosts (decoded (db_part body)) (read_each said_in (option_pieces body)) d e) is in
    let same = read_each-length decoded (host_pieces body) d.hosts read in
    let count = length-pieces 44 (hosts_part body) in
    let some = count.0 in
    let most = count.1 in
    let slash = length-before 47 (before_part 63 body).text in
    let mark = length-before 63 body.text in
    (omega (arith, same, some), omega (arith, same, most, slash, mark))

-- ---- Nothing is left out

left_ok : (b : Bool) (name : List ℕ) (names : List (List ℕ)) (c d : Chosen)
    → cond b (Err (fault.Left name)) (first_left names c) ≡ Ok d → (b ≡ false) × (c ≡ d)
left_ok true name names c d is = absurd (cc)
left_ok false name [] c d is = (refl, cc)
left_ok false name (n ∷ names) c d is = absurd (cc)

-- no host is a path, and what was chosen stays
pub none_left-ok : (hosts : List (List ℕ)) (c d : Chosen) → none_left hosts c ≡ Ok d → (list_any is_path hosts ≡ false) × (c ≡ d)
none_left-ok hosts c d is = left_ok (list_any is_path hosts) _ c.left c d is

-- ---- The seeds

neither : (a b : Bool) → (a || b) ≡ false → (a ≡ false) × (b ≡ false)
neither true b e = absurd (cc)
neither false b e = (refl, e)

filter-all : {A : Type 0} (p : A → Bool) (xs : List A) → list_any p xs ≡ false → filter (λ x. not (p x)) xs ≡ xs
filter-all p [] e = refl
filter-all p (x ∷ xs) e =
    let both = neither (p x) (list_any p xs) e in
    ap (λ t. cond (not t) (x ∷ filter (λ y. not (p y)) xs) (filter (λ y. not (p y)) xs)) both.0 ∙ ap (λ ys. x ∷ ys) (filter-all p xs both.1)

length-push : {A : Type 0} (b : Bool) (kept : List A) (h : A) → (length kept ≤ length (cond b kept (kept ++ h ∷ []))) × (length (cond b kept (kept ++ h ∷ [])) ≤ length kept + 1)
length-push true kept h = (omega arith, omega arith)
length-push false kept h = let long = length-append kept (h ∷ []) in (omega (arith, long), omega (arith, long))

length-folded : (kept hosts : List Address) → (length kept ≤ length (fold with_host kept hosts)) × (length (fold with_host kept hosts) ≤ length kept + length hosts)
length-folded kept [] = (omega arith, omega arith)
length-folded kept (h ∷ hosts) =
    let one = length-push (list_any (is_same_address h) kept) kept h in
    let rest = length-folded (with_host kept h) hosts in
    let a = one.0 in
    let b = one.1 in
    let c = rest.0 in
    let d = rest.1 in
    (omega (arith, a, c), omega (arith, b, d))

length-kept_once : (hosts : List Address) → 1 ≤ length hosts → (1 ≤ length (kept_once hosts)) × (length (kept_once hosts) ≤ length hosts)
length-kept_once [] some = absurd (omega (arith, some))
length-kept_once (h ∷ hosts) some =
    let rest = length-folded (h ∷ []) hosts in
    let a = rest.0 in
    let b = rest.1 in
    (omega (arith, a), omega (arith, b))

once : (r : Result (List Address) UriFault) (seeds : List Address) → (r >>= (λ hosts. Ok (kept_once hosts))) ≡ Ok seeds
    → (hosts : List Address) × (r ≡ Ok hosts) × (kept_once hosts ≡ seeds)
once (Err e) seeds is = absurd (cc)
once (Ok hosts) seeds is = (hosts, refl, cc)

-- what is read of texts that are no paths are seeds
pub seeds_in-seeds : (texts : List (List ℕ)) (seeds : List Address) → 1 ≤ length texts → length texts ≤ 16777216 → list_any is_path texts ≡ false
    → seeds_in texts ≡ Ok seeds → AreSeeds seeds
seeds_in-seeds texts seeds some most no_path is =
    let read = once (read_each host_in (filter (λ t. not (is_path t)) texts)) seeds is in
    let hosts = read.0 in
    let count = read_each-length host_in (filter (λ t. not (is_path t)) texts) hosts read.1 ∙ ap length (filter-all is_path texts no_path) in
    let kept = length-kept_once hosts (omega (arith, count, some)) in
    let least = kept.0 in
    let greatest = kept.1 in
    subst AreSeeds read.2 (record {
      some = least;
      most = omega (arith, greatest, count, most);
      differ = kept_once-distinct hosts;
    })
