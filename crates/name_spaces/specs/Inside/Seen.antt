-- Namespaces, and what a symbol names, without where they lie in memory.
use Rattle.std.specs.Prelude.{option_map}
use Rattle.std.specs.Arc.{arc_value}
use Rattle.std.specs.BTreeMap.{BTreeMap, get_by_text}
use Rattle.std.specs.declared.alloc.Global.{Global}
use Rattle.std.specs.declared.string.String.{String}
use Rattle.repl_asks.specs.Inside.View.{binding_view, resolution_view}
use Rattle.name_spaces.specs.Bindings.{Bindings}
use Rattle.name_spaces.specs.Namespaces.{Namespaces}
use Rattle.name_spaces.specs.Resolving.{FoundData, found_resolution, found_latest}
use Rattle.name_spaces.specs.declared.found.Found.{Found}
use Rattle.name_spaces.specs.declared.vars.Vars.{Vars}
use Rattle.name_spaces.specs.declared.shared.SharedNames.{SharedNames}
use Rattle.name_spaces.specs.declared.shared.SharedDefinitions.{SharedDefinitions}
use Rattle.name_spaces.specs.declared.spaces.Spaces.{Spaces}

abbrev pub bound_in : Vars → Bindings
bound_in vars name = option_map binding_view (get_by_text vars.bindings name)

-- what namespaces bind, by their names
abbrev pub bound_among : BTreeMap (String Global) Vars → Namespaces
bound_among namespaces name = option_map bound_in (get_by_text namespaces name)

-- what the shared namespace binds
abbrev pub shared_bindings : SharedNames → Bindings
shared_bindings names = bound_in (arc_value names.vars)

-- what it binds so far, while its text is read
abbrev pub defined_bindings : SharedDefinitions → Bindings
defined_bindings names = bound_in names.vars

unfoldable pub namespaces_of : Spaces → Namespaces
namespaces_of spaces = bound_among spaces.namespaces

-- what the shared namespace binds for this tenant
abbrev pub shared_in : Spaces → Bindings
shared_in spaces = shared_bindings spaces.shared

abbrev pub found_view : Found → FoundData
found_view (Found.Resolution r) = found_resolution (resolution_view r)
found_view (Found.Latest latest) = found_latest latest
