-- The types of what the machine throws, in a table.
use Rattle.std.specs.Prelude.{ℕ, List, Option, None, slice_index_or}
use Rattle.wf_base.specs.declared.ids.TypeId.{TypeId}
use Rattle.wf_rows.specs.declared.throwable.Throwable.{Throwable}
use Rattle.wf_rows.specs.declared.throwable.Throwable.TheVariants as throwable

-- the place of each in the table
abbrev pub place_of : Throwable → ℕ
place_of throwable.NullPointer = 0
place_of throwable.ArrayIndexOutOfBounds = 1
place_of throwable.ArrayStore = 2
place_of throwable.NegativeArraySize = 3
place_of throwable.ClassCast = 4
place_of throwable.Arithmetic = 5
place_of throwable.AbstractMethod = 6
place_of throwable.IncompatibleClassChange = 7
place_of throwable.NoClassDefFound = 8
place_of throwable.NoSuchField = 9
place_of throwable.NoSuchMethod = 10
place_of throwable.Instantiation = 11
place_of throwable.ExceptionInInitializer = 12

abbrev pub type_in : List (Option TypeId) → Throwable → Option TypeId
type_in types error = slice_index_or types (place_of error) None
