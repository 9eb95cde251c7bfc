-- Two records are equal where all their fields are.
use Rattle.std.specs.Prelude.{Bool, ◌&&◌, ◌==◌}
use Rattle.std.specs.Bool.{beq}
use Rattle.std.specs.Str.{bytes_eq}
use Rattle.records.specs.declared.types.Scope.{Scope}
use Rattle.records.specs.declared.types.Entry.{Entry}
use Rattle.records.specs.declared.types.Certificate.{Certificate}

abbrev pub same_window : Scope → Scope → Bool
same_window a b = (a.not_before == b.not_before) && (a.not_after == b.not_after)

abbrev pub same_scope : Scope → Scope → Bool
same_scope a b = beq a.delegate b.delegate && ((a.not_before == b.not_before) && ((a.not_after == b.not_after) && ((a.term_length == b.term_length) && bytes_eq a.term b.term)))

unfoldable pub same_entry : Entry → Entry → Bool
same_entry a b = bytes_eq a.subject b.subject && same_scope a.scope b.scope

unfoldable pub same_certificate : Certificate → Certificate → Bool
same_certificate a b = bytes_eq a.issuer b.issuer && (bytes_eq a.subject b.subject && (bytes_eq a.device b.device && same_scope a.scope b.scope))
