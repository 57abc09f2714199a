-- The targets of a place's rows are among its nodes.
use Rattle.std.proofs.Common.{◌≡◌, ℕ, suc, ◌+◌, ◌<◌, ◌≤◌, List, [], ◌∷◌, ◌++◌, length, Option, Some, None, option_map, Ok, Err, refl, arith}
use Rattle.std.specs.Prelude.{Contains, slice_get}
use Rattle.std.proofs.lemmas.Option.{slice_get_within, get_or_from_slice_get}
use Rattle.std.proofs.lemmas.List.Elements.{Contains-append_left, Contains-append_right}
use Rattle.wf_base.specs.declared.ids.ClassId.{ClassId}
use Rattle.wf_base.specs.declared.ids.FieldId.{FieldId}
use Rattle.wf_base.specs.declared.ids.MethodId.{MethodId}
use Rattle.wf_base.specs.declared.ids.TypeId.{TypeId}
use Rattle.wf_base.specs.declared.kind.Kind.{Kind}
use Rattle.wf_base.specs.declared.kind.Kind.TheVariants as kind
use Rattle.wf_data.specs.declared.instr.Case.{Case}
use Rattle.wf_names.specs.declared.world.LinkError.{LinkError}
use Rattle.wf_operation.specs.declared.next.Left.{Left}
use Rattle.wf_operation.specs.declared.next.Next.{Next}
use Rattle.wf_operation.specs.declared.next.Next.TheVariants as next
use Rattle.wf_operation.specs.Nexts.{left_of}
use Rattle.wf_system.specs.declared.inequality.Guard.{Guard}
use Rattle.wf_system.specs.declared.inequality.Guard.TheVariants.{NonEmpty, HasUnder, Linked}
use Rattle.wf_system.specs.declared.inequality.Inequality.{Inequality}
use Rattle.wf_system.specs.declared.inequality.ValueOp.{ValueOp}
use Rattle.wf_rows.specs.declared.action.Action.{Action}
use Rattle.wf_rows.specs.declared.action.Action.TheVariants as action
use Rattle.wf_rows.specs.declared.action.ArrayUse.TheVariants as array
use Rattle.wf_rows.specs.declared.action.FieldUse.TheVariants as field
use Rattle.wf_rows.specs.declared.action.Literal.{Literal}
use Rattle.wf_rows.specs.declared.action.LiteralField.{LiteralField}
use Rattle.wf_rows.specs.declared.action.StatedValue.{StatedValue}
use Rattle.wf_rows.specs.declared.action.StatedValue.TheVariants as stated
use Rattle.wf_rows.specs.declared.action.Making.TheVariants as making
use Rattle.wf_rows.specs.declared.action.SelectedCall.{SelectedCall}
use Rattle.wf_rows.specs.declared.action.TypeTest.TheVariants as test
use Rattle.wf_rows.specs.declared.classes.InstanceField.{InstanceField}
use Rattle.wf_rows.specs.declared.classes.InstanceFields.{InstanceFields}
use Rattle.wf_rows.specs.declared.classes.Initialization.{Initialization}
use Rattle.wf_rows.specs.declared.classes.StaticStart.{StaticStart}
use Rattle.wf_rows.specs.declared.classes.StartValue.{StartValue}
use Rattle.wf_rows.specs.declared.classes.StartValue.TheVariants as start
use Rattle.wf_rows.specs.declared.context.ArrayType.{ArrayType}
use Rattle.wf_rows.specs.declared.node.Node.{Node}
use Rattle.wf_rows.specs.declared.node.Node.TheVariants as node
use Rattle.wf_rows.specs.declared.node.Own.{Own}
use Rattle.wf_rows.specs.declared.node.Own.TheVariants as own
use Rattle.wf_rows.specs.declared.summaries.SummaryEffect.{SummaryEffect}
use Rattle.wf_rows.specs.declared.summaries.SummaryEffect.TheVariants as effect
use Rattle.wf_rows.specs.declared.summaries.SummaryValue.{SummaryValue}
use Rattle.wf_rows.specs.declared.summaries.SummaryValue.TheVariants.{Stated, Argument}
use Rattle.wf_rows.specs.declared.throwable.Throwable.{Throwable}
use Rattle.wf_rows.specs.Each.{each_from}
use Rattle.wf_rows.specs.Before.{Before, refined, operand, links}
use Rattle.wf_rows.specs.Values.{made_rows, literal_field_rows, object_rows}
use Rattle.wf_rows.specs.Classes.{zero_value, zero_rows, started_rows, static_start_rows, request_rows, initializer_errors, initializer_rows, requested_rows, initialization_rows, instance_rows, instances_rows, element_rows, elements_rows}
use Rattle.wf_rows.specs.Summaries.{summary_made_rows, effect_under, effect_rows}
use Rattle.wf_rows.specs.Branches.{left_rows, along_rows, case_rows, branch_rows, first_operand, left_value}
use Rattle.wf_rows.specs.Arrays.{stored_rows, component_rows}
use Rattle.wf_rows.specs.Calls.{argument_rows, candidate_rows}
use Rattle.wf_rows.specs.Errors.{thrown_rows, error_at, error_rows, failing_rows, machine_rows, own_errors, link_error, throwable_of}
use Rattle.wf_rows.specs.Table.{rows_at, place_rows}
use Rattle.wf_rows.specs.OwnNodes.{gives, result_nodes, links_nodes, left_nodes, along_nodes, case_nodes, refined_nodes, own_at}
use Rattle.wf_rows.specs.Nodes.{Shared, method_nodes, IsCallable, IsClass, IsField, AreFields, IsNamed, AreNested, IsThere, TargetsThere, KindNamed, IsStarted, StartNamed, InitializerNamed, InitializationNamed, InstancesNamed, EffectNamed}

contains-at : {A : Type 0} (xs : List A) (i : ℕ) (x : A) → slice_get xs i ≡ Some x → Contains xs x
contains-at xs i x g = (i, slice_get_within xs i x g, get_or_from_slice_get xs i x x g)

module _ (s : Shared) where
  -- ---- more nodes, and lists of rows

  is-left : (os ps : List Own) (n : Node Own) → IsThere s os n → IsThere s (os ++ ps) n
  is-left os ps (node.In o) h = Contains-append_left os ps o h
  is-left os ps other h = h

  is-right : (os ps : List Own) (n : Node Own) → IsThere s ps n → IsThere s (os ++ ps) n
  is-right os ps (node.In o) h = Contains-append_right os ps o h
  is-right os ps other h = h

  there-left : (os ps : List Own) (qs : List (Inequality (Node Own))) → TargetsThere s os qs → TargetsThere s (os ++ ps) qs
  there-left os ps [] h = tt
  there-left os ps (q ∷ qs) h = (is-left os ps q.target h.0, there-left os ps qs h.1)

  there-right : (os ps : List Own) (qs : List (Inequality (Node Own))) → TargetsThere s ps qs → TargetsThere s (os ++ ps) qs
  there-right os ps [] h = tt
  there-right os ps (q ∷ qs) h = (is-right os ps q.target h.0, there-right os ps qs h.1)

  there-both : (os : List Own) (qs rs : List (Inequality (Node Own))) → TargetsThere s os qs → TargetsThere s os rs → TargetsThere s os (qs ++ rs)
  there-both os [] rs h k = k
  there-both os (q ∷ qs) rs h k = (h.0, there-both os qs rs h.1 k)

  there-each : {A : Type 0} (os : List Own) (f : ℕ → A → List (Inequality (Node Own))) (first : ℕ) (xs : List A)
      → ((i n : ℕ) (x : A) → first + i ≡ n → slice_get xs i ≡ Some x → TargetsThere s os (f n x)) → TargetsThere s os (each_from f first xs)
  there-each os f first [] h = tt
  there-each {A} os f first (x ∷ xs) h =
      there-both os (f first x) (each_from f (first + 1) xs) (h 0 first x (omega arith) refl)
      (there-each os f (first + 1) xs (λ (i n : ℕ) (y : A) (e : first + 1 + i ≡ n) (g : slice_get xs i ≡ Some y). h (suc i) n y (omega arith) g))

  -- ---- branches

  left-there : (k : Before) (edge operand : ℕ) (f : Left → ValueOp (Node Own)) (o : Option Left)
      → TargetsThere s (left_nodes k.pc edge operand o) (left_rows k (refined k edge operand) (option_map f o))
  left-there k edge operand f None = tt
  left-there k edge operand f (Some left) = ((0, omega arith, refl), tt)

  along-there : (k : Before) (n : Next) (keys edge : ℕ) → TargetsThere s (along_nodes k.pc n edge) (along_rows k n keys edge)
  along-there k n keys edge =
      let a : Node Own = first_operand k n in
      let b : Node Own = operand k 0 in
      let o : Option Left = left_of n edge 1 in
      let p : Option Left = left_of n edge 2 in
      let first : List (Inequality (Node Own)) = left_rows k (refined k edge 1) (option_map (left_value a b keys) o) in
      let second : List (Inequality (Node Own)) = left_rows k (refined k edge 2) (option_map (left_value b a keys) p) in
      there-both (along_nodes k.pc n edge) first second
      (there-left (left_nodes k.pc edge 1 o) (left_nodes k.pc edge 2 p) first (left-there k edge 1 (left_value a b keys) o))
      (there-right (left_nodes k.pc edge 1 o) (left_nodes k.pc edge 2 p) second (left-there k edge 2 (left_value b a keys) p))

  -- two lists of rows and two of nodes, one behind the other
  there-beside : (os ps : List Own) (qs rs : List (Inequality (Node Own))) → TargetsThere s os qs → TargetsThere s ps rs → TargetsThere s (os ++ ps) (qs ++ rs)
  there-beside os ps qs rs h k = there-both (os ++ ps) qs rs (there-left os ps qs h) (there-right os ps rs k)

  cases-there : (k : Before) (n : Next) (keys i : ℕ) (cs : List Case)
      → TargetsThere s (each_from (case_nodes k.pc n) i cs) (each_from (case_rows k n keys) i cs)
  cases-there k n keys i [] = tt
  cases-there k n keys i (c ∷ cs) =
      there-beside (along_nodes k.pc n i) (each_from (case_nodes k.pc n) (i + 1) cs) (along_rows k n keys i) (each_from (case_rows k n keys) (i + 1) cs)
      (along-there k n keys i) (cases-there k n keys (i + 1) cs)

  branch-there : (k : Before) (n : Next) (keys : ℕ) → TargetsThere s (refined_nodes k.pc n) (branch_rows k n keys)
  branch-there k (next.Branches test to) keys =
      let n : Next = next.Branches test to in
      there-beside (along_nodes k.pc n 0) (along_nodes k.pc n 1) (along_rows k n keys 0) (along_rows k n keys 1) (along-there k n keys 0) (along-there k n keys 1)
  branch-there k (next.Switches cases default) keys =
      let n : Next = next.Switches cases default in
      there-beside (each_from (case_nodes k.pc n) 0 cases) (along_nodes k.pc n (length cases)) (each_from (case_rows k n keys) 0 cases) (along_rows k n keys (length cases))
      (cases-there k n keys 0 cases) (along-there k n keys (length cases))
  branch-there k next.Falls keys = tt
  branch-there k (next.Jumps to) keys = tt
  branch-there k (next.Returns kind) keys = tt
  branch-there k next.Throws keys = tt

  -- ---- what instructions do

  made-there : (os : List Own) (guard : Guard (Node Own)) (v : StatedValue) → TargetsThere s os (made_rows guard v)
  made-there os guard (stated.New t) = (tt, tt)
  made-there os guard stated.Null = tt
  made-there os guard (stated.Int c) = tt
  made-there os guard stated.AnyInt = tt
  made-there os guard stated.AnyLong = tt
  made-there os guard (stated.Under u) = tt

  fields-there : (os : List Own) (guard : Guard (Node Own)) (fields : List LiteralField)
      → ((line : LiteralField) → Contains fields line → IsField s line.field) → TargetsThere s os (each_from (literal_field_rows guard) 0 fields)
  fields-there os guard fields h =
      there-each os (literal_field_rows guard) 0 fields
      (λ (i n : ℕ) (line : LiteralField) (e : 0 + i ≡ n) (g : slice_get fields i ≡ Some line).
      let f : IsField s line.field = h line (contains-at fields i line g) in
      (f, (f, made-there os guard line.value)))

  stores-there : (os : List Own) (guard : Guard (Node Own)) (array stored : Node Own)
      → TargetsThere s os (each_from (stored_rows guard array stored) 0 s.arrays)
  stores-there os guard array stored =
      there-each os (stored_rows guard array stored) 0 s.arrays
      (λ (i n : ℕ) (t : ArrayType) (e : 0 + i ≡ n) (g : slice_get s.arrays i ≡ Some t).
      (record { type_of = t; there = contains-at s.arrays i t g; is = refl }, tt))

  arguments-there : (os : List Own) (k : Before) (guard : Guard (Node Own)) (m : MethodId) (first : ℕ) (depths : List ℕ)
      → first + length depths ≤ (method_nodes s m).parameters → TargetsThere s os (each_from (argument_rows k guard m) first depths)
  arguments-there os k guard m first depths h =
      there-each os (argument_rows k guard m) first depths
      (λ (i n depth : ℕ) (e : first + i ≡ n) (g : slice_get depths i ≡ Some depth).
      let l : i < length depths = slice_get_within depths i depth g in
      (omega arith, tt))

  components-there : (os : List Own) (k : Before) (t : TypeId) (ts : List TypeId) → AreNested s t ts → TargetsThere s os (component_rows k t ts)
  components-there os k t [] h = tt
  components-there os k t (u ∷ us) h = (tt, (h.0, components-there os k u us h.1))

  candidates-there : (os : List Own) (k : Before) (c : SelectedCall) → Contains os (own.Result k.pc)
      → ((callee : MethodId) → Contains c.candidates callee → IsCallable s callee (1 + length c.arguments))
      → TargetsThere s os (each_from (candidate_rows k c) 0 c.candidates)
  candidates-there os k c r h =
      there-each os (candidate_rows k c) 0 c.candidates
      (λ (i j : ℕ) (m : MethodId) (e : 0 + i ≡ j) (g : slice_get c.candidates i ≡ Some m).
      let callable : IsCallable s m (1 + length c.arguments) = h m (contains-at c.candidates i m g) in
      let parameters : 1 + length c.arguments ≤ (method_nodes s m).parameters = callable.parameters in
      (callable.entered, (omega arith, (r, arguments-there os k (Linked (links k) j) m 1 c.arguments parameters))))

  rows-there : (k : Before) (a : Action) → IsNamed s k.method a → TargetsThere s (result_nodes k.pc (gives a) ++ links_nodes k.pc a) (rows_at k s.arrays a)
  rows-there k action.Moves h = tt
  rows-there k (action.Computes c) h = ((0, omega arith, refl), tt)
  rows-there k (action.Literal (Ok l)) h =
      ((0, omega arith, refl), (tt, fields-there (own.Result k.pc ∷ []) (NonEmpty k.predicate) l.fields h))
  rows-there k (action.Literal (Err e)) h = tt
  rows-there k (action.Field (field.GetStatic (Ok f))) h = (h.class, (h.field, ((0, omega arith, refl), tt)))
  rows-there k (action.Field (field.GetStatic (Err e))) h = tt
  rows-there k (action.Field (field.PutStatic (Ok f) kind)) h = (h.class, (h.field, (h.field, tt)))
  rows-there k (action.Field (field.PutStatic (Err e) kind)) h = tt
  rows-there k (action.Field (field.Get (Ok f))) h = (h, ((0, omega arith, refl), tt))
  rows-there k (action.Field (field.Get (Err e))) h = tt
  rows-there k (action.Field (field.Put (Ok f) kind)) h = (h, (h, tt))
  rows-there k (action.Field (field.Put (Err e) kind)) h = tt
  rows-there k (action.Array array.Length) h = ((0, omega arith, refl), tt)
  rows-there k (action.Array array.LoadInt) h = ((0, omega arith, refl), tt)
  rows-there k (action.Array array.LoadLong) h = ((0, omega arith, refl), tt)
  rows-there k (action.Array array.LoadRef) h = ((0, omega arith, refl), tt)
  rows-there k (action.Array array.StoreNumber) h = tt
  rows-there k (action.Array array.StoreRef) h = stores-there [] (NonEmpty k.predicate) (operand k 2) (operand k 0)
  rows-there k (action.Makes (making.Object (Ok o))) h = (h, ((0, omega arith, refl), (tt, tt)))
  rows-there k (action.Makes (making.Object (Err e))) h = tt
  rows-there k (action.Makes (making.Array (Ok t))) h = ((0, omega arith, refl), (tt, tt))
  rows-there k (action.Makes (making.Array (Err e))) h = tt
  rows-there k (action.Makes (making.ManyArray (Ok m))) h = ((0, omega arith, refl), (tt, components-there (own.Result k.pc ∷ []) k m.array m.components h))
  rows-there k (action.Makes (making.ManyArray (Err e))) h = tt
  rows-there k (action.Tests (test.Cast (Ok u))) h = ((0, omega arith, refl), tt)
  rows-there k (action.Tests (test.Cast (Err e))) h = ((0, omega arith, refl), tt)
  rows-there k (action.Tests (test.InstanceOf (Ok u))) h = ((0, omega arith, refl), tt)
  rows-there k (action.Tests (test.InstanceOf (Err e))) h = ((0, omega arith, refl), tt)
  rows-there k (action.CallsStatic (Ok c)) h =
      let parameters : 0 + length c.arguments ≤ (method_nodes s c.method).parameters = omega (arith, h.method.parameters) in
      (h.class, (h.method.entered, ((0, omega arith, refl), arguments-there (own.Result k.pc ∷ []) k (NonEmpty k.predicate) c.method 0 c.arguments parameters)))
  rows-there k (action.CallsStatic (Err e)) h = tt
  rows-there k (action.Calls (Ok c)) h =
      let os : List Own = own.Result k.pc ∷ own.Links k.pc ∷ [] in
      ((1, omega arith, refl), candidates-there os k c (0, omega arith, refl) h)
  rows-there k (action.Calls (Err e)) h = tt
  rows-there k (action.Returns None) h = (h, tt)
  rows-there k (action.Returns (Some kind)) h = (h, tt)
  rows-there k action.Throws h = tt
  rows-there k action.Monitors h = tt

  -- ---- errors

  thrown-there : (os : List Own) (guard : Guard (Node Own)) (o : Option TypeId) → TargetsThere s os (thrown_rows guard o)
  thrown-there os guard None = tt
  thrown-there os guard (Some t) = (tt, tt)

  errors-there : (os : List Own) (guard : Guard (Node Own)) (thrown : Throwable → Option TypeId) (es : List Throwable) → TargetsThere s os (error_rows guard thrown es)
  errors-there os guard thrown es =
      there-each os (error_at guard thrown) 0 es
      (λ (i n : ℕ) (e : Throwable) (is : 0 + i ≡ n) (g : slice_get es i ≡ Some e). thrown-there os guard (thrown e))

  failing-there : (os : List Own) (guard : Guard (Node Own)) (thrown : Throwable → Option TypeId) (o : Option LinkError) → TargetsThere s os (failing_rows guard thrown o)
  failing-there os guard thrown None = tt
  failing-there os guard thrown (Some e) = thrown-there os guard (thrown (throwable_of e))

  -- ---- all of a place

  pub place-there : (k : Before) (thrown : Throwable → Option TypeId) (keys : ℕ) (n : Next) (a : Action)
      → IsNamed s k.method a → TargetsThere s (own_at k.pc n a) (place_rows k s.arrays thrown keys n a)
  place-there k thrown keys n a h =
      let os : List Own = result_nodes k.pc (gives a) ++ links_nodes k.pc a in
      let ps : List Own = refined_nodes k.pc n in
      let here : Guard (Node Own) = NonEmpty k.predicate in
      there-both (os ++ ps) (branch_rows k n keys ++ rows_at k s.arrays a) (machine_rows k thrown a)
      (there-both (os ++ ps) (branch_rows k n keys) (rows_at k s.arrays a)
      (there-right os ps (branch_rows k n keys) (branch-there k n keys))
      (there-left os ps (rows_at k s.arrays a) (rows-there k a h)))
      (there-both (os ++ ps) (error_rows here thrown (own_errors a)) (failing_rows here thrown (link_error a))
      (errors-there (os ++ ps) here thrown (own_errors a))
      (failing-there (os ++ ps) here thrown (link_error a)))

  -- ---- rows without a place

  module _ (guard : Guard (Node Own)) where
    object-there : (target : Node Own) (l : Literal) → IsThere s [] target → AreFields s l.fields → TargetsThere s [] (object_rows guard target l)
    object-there target l t h = (t, (tt, fields-there [] guard l.fields h))

    zero-there : (f : FieldId) (k : Kind) → KindNamed s f k → TargetsThere s [] (zero_rows guard (node.Held f) (zero_value k))
    zero-there f kind.Int h = (h, tt)
    zero-there f kind.Long h = (h, tt)
    zero-there f kind.Ref h = (h, tt)
    zero-there f kind.Float h = tt
    zero-there f kind.Double h = tt

    started-there : (f : FieldId) (v : StartValue) → IsStarted s f v → TargetsThere s [] (started_rows guard (node.Held f) v)
    started-there f (start.Zero k) h = zero-there f k h
    started-there f (start.Int c) h = (h, tt)
    started-there f start.Long h = (h, tt)
    started-there f (start.Object l) h = object-there (node.Held f) l h.0 h.1

    starts-there : (fields : List StaticStart) → ((f : StaticStart) → Contains fields f → StartNamed s f) → TargetsThere s [] (each_from (static_start_rows guard) 0 fields)
    starts-there fields h =
        there-each [] (static_start_rows guard) 0 fields
        (λ (i n : ℕ) (f : StaticStart) (e : 0 + i ≡ n) (g : slice_get fields i ≡ Some f). started-there f.field f.value (h f (contains-at fields i f g)))

    requests-there : (classes : List ClassId) → ((c : ClassId) → Contains classes c → IsClass s c) → TargetsThere s [] (each_from (request_rows guard) 0 classes)
    requests-there classes h =
        there-each [] (request_rows guard) 0 classes
        (λ (i n : ℕ) (c : ClassId) (e : 0 + i ≡ n) (g : slice_get classes i ≡ Some c). (h c (contains-at classes i c g), tt))

    initializer-there : (thrown : Throwable → Option TypeId) (m : Option MethodId) → InitializerNamed s m → TargetsThere s [] (initializer_rows guard thrown m)
    initializer-there thrown (Some m) h = (h, errors-there [] (NonEmpty (node.Entered m)) thrown initializer_errors)
    initializer-there thrown None h = tt

    requested-there : (thrown : Throwable → Option TypeId) (c : Initialization) → InitializationNamed s c → TargetsThere s [] (requested_rows guard thrown c)
    requested-there thrown c h =
        there-both [] (initializer_rows guard thrown c.initializer ++ each_from (request_rows guard) 0 c.before) (each_from (static_start_rows guard) 0 c.fields)
        (there-both [] (initializer_rows guard thrown c.initializer) (each_from (request_rows guard) 0 c.before)
        (initializer-there thrown c.initializer h.initializer) (requests-there c.before h.before))
        (starts-there c.fields h.fields)

    zeros-there : (fields : List InstanceField) → ((f : InstanceField) → Contains fields f → KindNamed s f.field f.kind) → TargetsThere s [] (each_from (instance_rows guard) 0 fields)
    zeros-there fields h =
        there-each [] (instance_rows guard) 0 fields
        (λ (i n : ℕ) (f : InstanceField) (e : 0 + i ≡ n) (g : slice_get fields i ≡ Some f). zero-there f.field f.kind (h f (contains-at fields i f g)))

    summary-made-there : (v : SummaryValue) → TargetsThere s [] (summary_made_rows guard v)
    summary-made-there (Stated v) = made-there [] guard v
    summary-made-there (Argument i) = tt

    effect-there : (m : MethodId) (e : SummaryEffect) → EffectNamed s m e → TargetsThere s [] (effect_under guard m s.arrays e)
    effect-there m effect.ReturnsVoid h = (h, tt)
    effect-there m (effect.Returns v) h = (h, summary-made-there v)
    effect-there m (effect.Makes t) h = (tt, tt)
    effect-there m (effect.Writes f v) h = (h, (h, summary-made-there v))
    effect-there m (effect.Copies line source into) h = (h, stores-there [] guard (node.Parameter m into) (node.Copied line))

  pub initialization-there : (thrown : Throwable → Option TypeId) (c : Initialization) → InitializationNamed s c → TargetsThere s [] (initialization_rows thrown c)
  initialization-there thrown c h = requested-there (NonEmpty (node.Initialized c.class)) thrown c h

  pub instances-there : (c : InstanceFields) → InstancesNamed s c → TargetsThere s [] (instances_rows c)
  instances-there c h = zeros-there (HasUnder c.class) c.fields h

  pub elements-there : TargetsThere s [] (elements_rows s.arrays)
  elements-there =
      there-each [] element_rows 0 s.arrays
      (λ (i n : ℕ) (t : ArrayType) (e : 0 + i ≡ n) (g : slice_get s.arrays i ≡ Some t).
      (record { type_of = t; there = contains-at s.arrays i t g; is = refl }, tt))

  pub effects-there : (m : MethodId) (e : SummaryEffect) → EffectNamed s m e → TargetsThere s [] (effect_rows m s.arrays e)
  effects-there m e h = effect-there (NonEmpty (node.Entered m)) m e h
