-- What the lines of a listing say together (this project's own). A line outside the form is left out, and the lines
-- behind it are read as if it weren't there; the first one is kept.
use Rattle.std.specs.Prelude.{ℕ, ◌+◌, ◌==◌, List, [], ◌∷◌, ◌++◌, Option, Some, None, if◌then◌else◌}
use Rattle.wf_lines.specs.Lines.{is_nothing, lines_of}
use Rattle.wf_listing.specs.declared.listing.Listed.{Listed}
use Rattle.wf_listing.specs.declared.listing.ListedField.{ListedField}
use Rattle.wf_listing.specs.declared.listing.ListedMethod.{ListedMethod}
use Rattle.wf_listing.specs.declared.listing.Listing.{Listing}
use Rattle.wf_listing.specs.declared.listing.Open.{Open}
use Rattle.wf_listing.specs.declared.listing.Open.TheVariants as opens
use Rattle.wf_listing.specs.declared.listing.ReadSoFar.{ReadSoFar}
use Rattle.wf_listing.specs.declared.listing.Said.{Said}
use Rattle.wf_listing.specs.declared.listing.Said.TheVariants as said
use Rattle.wf_listing.specs.declared.listing.Statement.{Statement}
use Rattle.wf_listing.specs.Lines.{line_said}

-- spaces before a line mean nothing
abbrev pub drop_spaces : List ℕ → List ℕ
drop_spaces [] = []
drop_spaces (b ∷ bytes) = if b == 32 then drop_spaces bytes else b ∷ bytes

abbrev pub with_field : Listed → ListedField → Listed
with_field c f = record { line = c.line; flags = c.flags; name = c.name; superclass = c.superclass; interfaces = c.interfaces; fields = c.fields ++ f ∷ []; methods = c.methods }

abbrev pub with_method : Listed → ListedMethod → Listed
with_method c m = record { line = c.line; flags = c.flags; name = c.name; superclass = c.superclass; interfaces = c.interfaces; fields = c.fields; methods = c.methods ++ m ∷ [] }

abbrev pub with_body : ListedMethod → List Statement → ListedMethod
with_body m body = record { flags = m.flags; name = m.name; desc = m.desc; body = Some body }

-- the first line outside the form, where this line is outside too
abbrev pub bad_at : ℕ → Option ℕ → Option ℕ
bad_at line None = Some line
bad_at line (Some first) = Some first

abbrev pub opened : List Listed → Open → Option ℕ → ReadSoFar
opened classes place bad = record { classes = classes; place = place; first_bad = bad }

-- the same state, with this line outside the form
abbrev pub with_bad : ℕ → ReadSoFar → ReadSoFar
with_bad line so_far = opened so_far.classes so_far.place (bad_at line so_far.first_bad)

-- a method opens its body, where it has one
abbrev pub method_on : List Listed → Listed → Option ℕ → ListedMethod → Option (List Statement) → ReadSoFar
method_on classes c bad m None = opened classes (opens.Class (with_method c m)) bad
method_on classes c bad m (Some body) = opened classes (opens.Body c m []) bad

-- What follows from a line, by what is open before it. A line in a wrong place is outside the form.
abbrev pub said_outside : ℕ → List Listed → Option ℕ → Said → ReadSoFar
said_outside line classes bad (said.Class c) = opened classes (opens.Class c) bad
said_outside line classes bad s = opened classes opens.Nothing (bad_at line bad)

abbrev pub said_in_class : ℕ → List Listed → Listed → Option ℕ → Said → ReadSoFar
said_in_class line classes c bad (said.Class next) = opened (classes ++ c ∷ []) (opens.Class next) bad
said_in_class line classes c bad (said.Field f) = opened classes (opens.Class (with_field c f)) bad
said_in_class line classes c bad (said.Method m) = method_on classes c bad m m.body
said_in_class line classes c bad s = opened classes (opens.Class c) (bad_at line bad)

abbrev pub said_in_body : ℕ → List Listed → Listed → ListedMethod → List Statement → Option ℕ → Said → ReadSoFar
said_in_body line classes c m body bad (said.Body i) = opened classes (opens.Body c m (body ++ record { line = line; says = i } ∷ [])) bad
said_in_body line classes c m body bad said.End = opened classes (opens.Class (with_method c (with_body m body))) bad
said_in_body line classes c m body bad s = opened classes (opens.Body c m body) (bad_at line bad)

abbrev pub said_on : ℕ → List Listed → Open → Option ℕ → Said → ReadSoFar
said_on line classes opens.Nothing bad s = said_outside line classes bad s
said_on line classes (opens.Class c) bad s = said_in_class line classes c bad s
said_on line classes (opens.Body c m body) bad s = said_in_body line classes c m body bad s

-- what a line that means something leaves
abbrev pub next_said : ℕ → ReadSoFar → Option Said → ReadSoFar
next_said line so_far None = with_bad line so_far
next_said line so_far (Some s) = said_on line so_far.classes so_far.place so_far.first_bad s

-- a line, behind its spaces
abbrev pub line_on : ℕ → ReadSoFar → List ℕ → ReadSoFar
line_on line so_far bytes = if is_nothing bytes then so_far else next_said line so_far (line_said line bytes)

-- Behind the last line no body may be open: the line that isn't there is outside the form, and the body ends.
abbrev pub ended : ℕ → List Listed → Open → Option ℕ → Listing
ended line classes opens.Nothing bad = record { classes = classes; first_bad = bad }
ended line classes (opens.Class c) bad = record { classes = classes ++ c ∷ []; first_bad = bad }
ended line classes (opens.Body c m body) bad = record { classes = classes ++ with_method c (with_body m body) ∷ []; first_bad = bad_at line bad }

abbrev pub at_end : ℕ → ReadSoFar → Listing
at_end line so_far = ended line so_far.classes so_far.place so_far.first_bad

-- the lines from a number on
unfoldable pub lines_on : ℕ → ReadSoFar → List (List ℕ) → Listing
lines_on line so_far [] = at_end line so_far
lines_on line so_far (l ∷ ls) = lines_on (line + 1) (line_on line so_far (drop_spaces l)) ls

-- a listing, read from its first line on
abbrev pub listing_of : List ℕ → Listing
listing_of text = lines_on 1 (opened [] opens.Nothing None) (lines_of text)

-- how many of a class and a body are open
abbrev pub depth : Open → ℕ
depth opens.Nothing = 0
depth (opens.Class c) = 1
depth (opens.Body c m body) = 2
