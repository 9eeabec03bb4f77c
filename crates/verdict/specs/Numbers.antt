-- A vector as a number in base 3: the number of the theory of orders.
unfoldable pub use Rattle.orders.specs.Vectors.{number_from}
