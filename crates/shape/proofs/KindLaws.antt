-- Laws of the kinds of operations: a name's kind, by the tests that it passes.
use Rattle.std.specs.Prelude.{Option, Some}
use mathlib.Core.Path.{◌≡◌, ap, ◌∙◌}
use mathlib.Core.Bool.{Bool, true, false}
use Rattle.spec.specs.Outcome.{ok, refused}
use Rattle.spec.specs.Refusal.{wrong_shape}
use Rattle.spec.specs.Bytes.{Text, ascii}
use Rattle.spec.specs.Value.{same_text}
use Rattle.spec.specs.Operation as Operation
use Rattle.spec.specs.Operation.{add, remove, replace, move, copy, test}
use Rattle.spec.specs.Patch.{kind_named}
use Rattle.shape.specs.Kinds.{spec_kind, asks}
use Rattle.shape.specs.declared.kinds.Kind.{Kind}

module _ (t : Text) where
  pub add_named : same_text t (ascii "add") ≡ true → ok add ≡ kind_named t
  unfolding kind_named
  add_named is = rw is

  module _ (not-add : same_text t (ascii "add") ≡ false) where
    pub remove_named : same_text t (ascii "remove") ≡ true → ok remove ≡ kind_named t
    unfolding kind_named
    remove_named is = rw (not-add, is)

    module _ (not-remove : same_text t (ascii "remove") ≡ false) where
      pub replace_named : same_text t (ascii "replace") ≡ true → ok replace ≡ kind_named t
      unfolding kind_named
      replace_named is = rw (not-add, not-remove, is)

      module _ (not-replace : same_text t (ascii "replace") ≡ false) where
        pub move_named : same_text t (ascii "move") ≡ true → ok move ≡ kind_named t
        unfolding kind_named
        move_named is = rw (not-add, not-remove, not-replace, is)

        module _ (not-Move : same_text t (ascii "move") ≡ false) where
          pub copy_named : same_text t (ascii "copy") ≡ true → ok copy ≡ kind_named t
          unfolding kind_named
          copy_named is = rw (not-add, not-remove, not-replace, not-Move, is)

          module _ (not-copy : same_text t (ascii "copy") ≡ false) where
            pub test_named : same_text t (ascii "test") ≡ true → ok test ≡ kind_named t
            unfolding kind_named
            test_named is = rw (not-add, not-remove, not-replace, not-Move, not-copy, is)

            module _ (not_test : same_text t (ascii "test") ≡ false) where
              pub none_named : refused wrong_shape 0 ≡ kind_named t
              unfolding kind_named
              none_named = rw (not-add, not-remove, not-replace, not-Move, not-copy, not_test)

-- the kind that one of the words names, computed
unfoldable pub words : Unit {0}
unfolding spec_kind kind_named same_text ascii
words = tt

-- what is asked of a kind that is known
pub asked : (q : Operation.Kind → Bool) {kind : Option Kind} {b : Bool} → b ≡ asks q kind → {k : Kind} → kind ≡ Some k → b ≡ q (spec_kind k)
unfolding asks
asked q e is = e ∙ ap (asks q) is
