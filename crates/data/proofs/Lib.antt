pub mod Leb128Laws
