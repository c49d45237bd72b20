-- The names of the special forms, as they stand at the head of a list (the Clojure reference,
-- Special Forms).
use Rattle.std.specs.Prelude.{ℕ, List, Option, Some, None, if◌then◌else◌, codes}
use Rattle.std.specs.Str.{bytes_eq}
use Rattle.special_forms.specs.declared.special.SpecialForm.{SpecialForm}

abbrev pub special_named : List ℕ → Option SpecialForm
special_named name =
    if bytes_eq name (codes "and") then Some SpecialForm.And else (
    if bytes_eq name (codes "def") then Some SpecialForm.Def else (
    if bytes_eq name (codes "defn") then Some SpecialForm.Defn else (
    if bytes_eq name (codes "do") then Some SpecialForm.Do else (
    if bytes_eq name (codes "dosync") then Some SpecialForm.Dosync else (
    if bytes_eq name (codes "if") then Some SpecialForm.If else (
    if bytes_eq name (codes "in-ns") then Some SpecialForm.InNs else (
    if bytes_eq name (codes "io!") then Some SpecialForm.Io else (
    if bytes_eq name (codes "let") then Some SpecialForm.Let else (
    if bytes_eq name (codes "ns") then Some SpecialForm.Ns else (
    if bytes_eq name (codes "or") then Some SpecialForm.Or else (
    if bytes_eq name (codes "quote") then Some SpecialForm.Quote else (
    if bytes_eq name (codes "throw") then Some SpecialForm.Throw else (
    if bytes_eq name (codes "when") then Some SpecialForm.When else None)))))))))))))

abbrev pub special_name : SpecialForm → List ℕ
special_name SpecialForm.And = codes "and"
special_name SpecialForm.Def = codes "def"
special_name SpecialForm.Defn = codes "defn"
special_name SpecialForm.Do = codes "do"
special_name SpecialForm.Dosync = codes "dosync"
special_name SpecialForm.If = codes "if"
special_name SpecialForm.InNs = codes "in-ns"
special_name SpecialForm.Io = codes "io!"
special_name SpecialForm.Let = codes "let"
special_name SpecialForm.Ns = codes "ns"
special_name SpecialForm.Or = codes "or"
special_name SpecialForm.Quote = codes "quote"
special_name SpecialForm.Throw = codes "throw"
special_name SpecialForm.When = codes "when"
