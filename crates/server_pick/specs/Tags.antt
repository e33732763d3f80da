-- Which servers a tag set fits, and which tag set decides (Server Selection, tag_sets).
use Rattle.std.specs.Prelude.{Bool, ◌&&◌, List, [], ◌∷◌, Option, None, Some, filter, find}
use Rattle.std.specs.List.{list_any, list_all}
use Rattle.bson_doc.specs.Documents.{is_text}
use Rattle.hello_reply.specs.declared.server_description.ServerDescription.{ServerDescription}
use Rattle.hello_reply.specs.declared.tag.Tag.{Tag as ServerTag}
use Rattle.read_pref.specs.declared.tag.Tag.{Tag}

-- The server's tag has the name and the value that are asked for, byte by byte.
abbrev pub is_tag : Tag → ServerTag → Bool
is_tag asked tag = is_text tag.name asked.name && is_text tag.value asked.value

-- A server fits a tag set where it has each of its tags; the empty set fits every server.
abbrev pub fits : List Tag → ServerDescription → Bool
fits tags d = list_all (λ asked. list_any (is_tag asked) d.tags) tags

-- The first set that fits some of the servers.
abbrev pub deciding : List (List Tag) → List ServerDescription → Option (List Tag)
deciding sets ds = find (λ tags. list_any (fits tags) ds) sets

-- The servers that a set fits; none where there is no set.
abbrev pub that_fit : Option (List Tag) → List ServerDescription → List ServerDescription
that_fit None ds = []
that_fit (Some tags) ds = filter (fits tags) ds

-- Tag sets are tried in order: the first that fits some server decides, and where none does no server fits. An empty list of
-- sets fits every server.
abbrev pub tagged : List (List Tag) → List ServerDescription → List ServerDescription
tagged [] ds = ds
tagged (tags ∷ more) ds = that_fit (deciding (tags ∷ more) ds) ds
