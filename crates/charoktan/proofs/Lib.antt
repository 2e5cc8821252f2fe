pub mod Coding
pub mod Door
pub mod GraphDoor
pub mod RoomDoor
