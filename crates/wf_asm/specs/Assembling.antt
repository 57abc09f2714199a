-- The classes that a listing says, or the least line outside the form, whatever makes it so (this project's own). By
-- itself or in its place a line is outside where the reading says so, and by what it names where its class can't be made
-- of the lines that are read.
use Rattle.std.specs.Prelude.{ℕ, min, List, Option, Some, None, Result, Ok, Err}
use Rattle.wf_data.specs.declared.class_info.ClassInfo.{ClassInfo}
use Rattle.wf_listing.specs.Reading.{listing_of}
use Rattle.wf_asm.specs.Building.{classes_of}

abbrev pub least_of : Option ℕ → Result (List ClassInfo) ℕ → Result (List ClassInfo) ℕ
least_of None made = made
least_of (Some line) (Ok classes) = Err line
least_of (Some line) (Err other) = Err (min line other)

-- the classes, or the number of the line
abbrev pub assembled : List ℕ → Result (List ClassInfo) ℕ
assembled text = least_of (listing_of text).first_bad (classes_of (listing_of text).classes)
