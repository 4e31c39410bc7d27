-- Which numbers a kind allows, where the code has the kind and no longer its number.
use Rattle.std.specs.Prelude.{Bool, ◌&&◌}
use Rattle.geometry.specs.declared.Geometry.{Geometry}
use Rattle.geometry.specs.declared.Kind.{Kind}
use Rattle.geometry.specs.Kinds.{number_of}
use Rattle.geometry.specs.Valid.{is_between, kind_rule}

-- Whether the kind allows the depth and both widths.
abbrev pub kind_allows : Kind → Geometry → Bool
kind_allows k g = kind_rule (number_of k) g.depth g.pattern_width g.set_width

-- Whether the numbers are a geometry of the kind.
abbrev pub allows : Kind → Geometry → Bool
allows k g = is_between 1 4096 g.depth && kind_allows k g
