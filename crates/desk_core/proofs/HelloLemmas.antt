-- What holds of a hello and of its reply.
use Rattle.std.proofs.Common.{◌≡◌, ◌≤◌, Bool, true, false, List, length, Option, None, Some, refl, sym, subst, arith}
use Rattle.std.specs.Prelude.{Ok, Err, nat_le, if◌then◌else◌}
use Rattle.std.proofs.lemmas.Bool.{leb-true}
use Rattle.msg_wire.specs.Flags.{refused_bit}
use Rattle.bson_doc.specs.declared.name.Name.{Name}
use Rattle.bson_doc.specs.declared.value.Value.{Value}
use Rattle.host_name.specs.Addresses.{Address}
use Rattle.hello_reply.specs.declared.field_name.FieldName.{FieldName}
use Rattle.hello_reply.specs.declared.server_description.ServerDescription.{ServerDescription}
use Rattle.hello_reply.specs.Descriptions.{described, describes, judged, unknown}
use Rattle.hello_reply.specs.Fields.{first_fault}
use Rattle.hello_reply.specs.Kinds.{is_ok}

-- flags that are all clear are known
pub refused_bit-0 : refused_bit 0 ≡ None
unfolding refused_bit
refused_bit-0 = refl

-- a description of the host, which lists no more hosts than a reply may
pub record IsPlain (host : Address) (d : ServerDescription) : Type 0 where
  pub of_host : d.host ≡ host
  pub few : length d.listed ≤ 1000

within : {E : Type 0} (host : Address) (x d : ServerDescription) (error : E) (b : Bool) → b ≡ nat_le (length x.listed) 1000 → x.host ≡ host →
    (if b then Ok x else Err error) ≡ Ok d → IsPlain host d
within host x d error true e h o =
    let same : x ≡ d = cc in
    subst (λ y. IsPlain host y) same (record { of_host = h; few = leb-true (length x.listed) 1000 (sym e) })
within host x d error false e h o = cc

plain-judged : (host : Address) (f : Option FieldName) (x d : ServerDescription) → x.host ≡ host → judged f x ≡ Ok d → IsPlain host d
plain-judged host (Some f) x d h o = cc
plain-judged host None x d h o = within host x d _ (nat_le (length x.listed) 1000) refl h o

plain-read : (es : List (Name × Value)) (host : Address) (d : ServerDescription) (b : Bool) →
    (if b then judged (first_fault es) (described es host) else Ok (unknown host)) ≡ Ok d → IsPlain host d
plain-read es host d true o = plain-judged host (first_fault es) (described es host) d refl o
plain-read es host d false o =
    let same : unknown host ≡ d = cc in
    subst (λ y. IsPlain host y) same (record { of_host = refl; few = omega arith })

-- a reply's description is
pub describes-plain : (es : List (Name × Value)) (host : Address) (d : ServerDescription) → describes es host ≡ Ok d → IsPlain host d
describes-plain es host d o = plain-read es host d (is_ok es) o
