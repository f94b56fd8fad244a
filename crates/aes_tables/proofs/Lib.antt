pub mod Words
pub mod Sbox
pub mod RoundTable
pub mod Rounds
