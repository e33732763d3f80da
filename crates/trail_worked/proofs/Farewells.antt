-- Farewells, over lists.
use Rattle.std.proofs.Common.{◌≡◌, ℕ, zero, suc, ◌<◌, ◌≤◌, true, List, [], ◌∷◌, ◌++◌, length, Some, refl, sym, ap, ◌∙◌, subst, slice_get, arith, is_some, true≢false}
use Rattle.std.specs.List.{list_any}
use Rattle.pool_book.specs.Pool.{is_perished}
use Rattle.pool_book.specs.declared.connections.Available.{Available}
use Rattle.bson_doc.specs.declared.ids.Lsid.{Lsid}
use Rattle.host_name.specs.Addresses.{Address, is_same_address}
use Rattle.sess_book.specs.Ending.{IsParted, MOST_IDS}
use Rattle.server_pick.specs.Candidates.{suitable}
use Rattle.server_pick.specs.declared.criteria.Criteria.{Criteria}
use Rattle.desk_trail.specs.declared.request.Purpose.{Purpose}
use Rattle.desk_trail.specs.declared.request.Purpose.TheVariants as purpose
use Rattle.desk_trail.specs.declared.request.Request.{Request}
use Rattle.desk_trail.specs.Requests.{IsFarewell}
use Rattle.desk_trail.specs.States.{ClientState, ServerState}
use Rattle.std.specs.FinMap as map
use Rattle.std.specs.Prelude.{Bool, false}
use Rattle.trail_worked.proofs.MapRows.{descriptions_in, values-map_of}
use Rattle.trail_worked.proofs.TopologyRows.{Listed, shown}
use Rattle.trail_worked.proofs.Where.{clash, same}

-- one list of ids
pub parted_one : (ids : List Lsid) → ids ++ [] ≡ ids → 0 < length ids → length ids ≤ MOST_IDS → IsParted (ids ∷ []) ids
parted_one ids all some few = record {
  all = all;
  some = λ k l e. subst (λ xs. 0 < length xs) (at k l e) some;
  few = λ k l e. subst (λ xs. length xs ≤ MOST_IDS) (at k l e) few;
  full = λ k l e h. absurd (omega arith);
}
  where
    at : (k : ℕ) (l : List Lsid) → slice_get (ids ∷ []) k ≡ Some l → ids ≡ l
    at zero l e = same e
    at (suc k) l e = absurd (cc)

-- the server stands among those that a read may go to
pub selectable_in : (l : Listed) (criteria : Criteria) (address : Address) →
    list_any (λ d. is_same_address d.host address) (suitable l.kind criteria (map.values (shown l).servers))
    ≡ list_any (λ d. is_same_address d.host address) (suitable l.kind criteria (descriptions_in l.rows))
selectable_in l criteria address = ap (λ ds. list_any (λ d. is_same_address d.host address) (suitable l.kind criteria ds)) (values-map_of l.rows)

-- of the only server, which has no available connection, there is none
pub no_connection_for : (w : ClientState) (moment : ℕ) (r : Request) (x : ServerState) → w.servers ≡ x ∷ [] → x.pool.state.available ≡ [] → IsFarewell w moment r → ⊥
no_connection_for w moment r x only none f = by f.host (subst (λ ss. slice_get ss f.host ≡ Some f.server) only f.at)
  where
    by : (host : ℕ) → slice_get (x ∷ []) host ≡ Some f.server → ⊥
    by zero e =
        let server : f.server ≡ x = sym (same e) in
        let there = subst (λ xs. slice_get xs f.place ≡ Some f.free) (ap (λ (s : ServerState). s.pool.state.available) server ∙ none) f.available in
        clash (sym there) is_some refl refl
    by (suc host) e = clash (sym e) is_some refl refl

-- of the only server, whose only available connection has perished, there is none either
pub perished_for : (w : ClientState) (moment : ℕ) (r : Request) (x : ServerState) (a : Available) → w.servers ≡ x ∷ [] →
    x.pool.state.available ≡ a ∷ [] → is_perished x.pool.state moment a ≡ true → IsFarewell w moment r → ⊥
perished_for w moment r x a only one perished f = by f.host (subst (λ ss. slice_get ss f.host ≡ Some f.server) only f.at)
  where
    at_place : (server : ServerState) (place : ℕ) → server ≡ x → slice_get (a ∷ []) place ≡ Some f.free → is_perished server.pool.state moment f.free ≡ false → ⊥
    at_place server zero is e sound =
        true≢false (sym perished ∙ (λ i. is_perished (sym is i).pool.state moment (same e i)) ∙ sound)
    at_place server (suc place) is e sound = clash (sym e) is_some refl refl

    by : (host : ℕ) → slice_get (x ∷ []) host ≡ Some f.server → ⊥
    by zero e =
        let server : f.server ≡ x = sym (same e) in
        let there = subst (λ xs. slice_get xs f.place ≡ Some f.free) (ap (λ (s : ServerState). s.pool.state.available) server ∙ one) f.available in
        at_place f.server f.place server there f.sound
    by (suc host) e = clash (sym e) is_some refl refl

abbrev pub is_command : Purpose → Bool
is_command (purpose.Check host) = false
is_command (purpose.Greeting host conn) = false
is_command (purpose.Command op) = true
is_command purpose.Farewell = false
