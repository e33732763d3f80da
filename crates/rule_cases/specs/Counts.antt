-- Operations in flight, as a case file lists them.
use Rattle.std.specs.Prelude.{ℕ, List, [], ◌∷◌, find, unwrap_or}
use Rattle.std.specs.Option.{option_map}
use Rattle.host_name.specs.Addresses.{Address, is_same_address}

-- The number beside the host where it stands first; 0 where it stands nowhere.
abbrev pub count_of : List (Address × ℕ) → Address → ℕ
count_of es host = unwrap_or (option_map (λ e. e.1) (find (λ e. is_same_address e.0 host) es)) 0
