-- Each name has the number that document 01 gives. Assumes nothing.
use Prim.Native.Nat.{ℕ}
use mathlib.Core.Path.{refl}
use Rattle.promises.specs.Numbers.{Number, NumbersAreTheDocuments}

so : {n : ℕ} → Number n n
so = record { is = refl }

pub numbers_are_the_documents : NumbersAreTheDocuments
numbers_are_the_documents =
    record {
      sizes = (so, so, so);
      words = (so, so, so, so, so, so, so);
      addresses = (so, so, so, so);
      rights = (so, so);
      every = (so, so, so);
      spaces = (so, so, so, so, so, so);
      threads = (so, so, so, so, so);
      pages = (so, so, so, so, so);
      types_of_pages = (so, so, so, so, so, so, so, so);
      states_of_spaces = (so, so, so, so);
      refusals_1 = (so, so, so, so, so, so, so);
      refusals_8 = (so, so, so, so, so, so);
      refusals_14 = (so, so, so, so, so, so, so, so);
      others = (so, so, so);
      images = (so, so, so, so, so, so, so, so, so);
      reading = (so, so, so, so, so, so);
      blocks = so;
      thread_block_is = λ entry. refl;
    }
